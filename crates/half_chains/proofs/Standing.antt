-- Where the half chains stand: those handed over are the half chains, and by the index those that start at a person are found.
use mathlib.Core.Path.{◌≡◌, refl, sym, ap, subst, ◌∙◌, fun_ext}
use mathlib.Core.Bool.{Bool, true, false, cond}
use mathlib.Core.List.Memᴰ
use mathlib.Core.List.{List, [], ◌∷◌, ◌++◌, map, flat_map, map-map, append-nil, append_assoc}
use mathlib.Core.Logic.{◌⊎◌, inl, inr, ⊎_elim}
use Prim.Native.Nat.{ℕ, zero, suc, ◌+◌, ◌-◌, ◌*◌, ◌/◌, ◌≤◌, ◌<◌}
use lib.ListN.{length, get_or, set, take, drop, replicate, length-append, get_or-append}
use lib.Seq.{take_at, drop-append-add, append_snoc}
use lib.Dec.{eqb, ltb}
use native.Mathlib.Omega.{arith}
use borrow.Author.Tests.{eq-eqb, ne_eqb, lt-ltb, le-ltb}
use Rattle.ways.specs.Graph.{◌∈◌, among}
use Rattle.ways.specs.Chain.{Last, Linked, hops}
use Rattle.ways.specs.Records.{record_of, Fits, cells_of, written}
use Rattle.ways.specs.ByHops.{shorter_first}
use Rattle.ways.specs.Halves.{persons_below, all_half_chains, halves}
use Rattle.ways.specs.Join.{onward}
use Rattle.ways.specs.Sizes.{record_size, most_hops}
use Rattle.ways.proofs.Cases.{same_or_not, lt_or_le}
use Rattle.ways.proofs.Members.{flat_map_append}
use Rattle.ways.proofs.Records.{cells_of_append, length-cells_of, length-written}
use Rattle.ways.proofs.Halves.{persons_below_lem, halves_exact, half_fits}
use Rattle.ways.proofs.Onward.{onward_from, all_half_chains-onward}
use Rattle.compact.specs.Compact.{persons}
use Rattle.compact.specs.declared.Graph as lent
use Rattle.compact.specs.Marks.{Marked}
use Rattle.compact.proofs.Marking.{marked_more}
use Rattle.traces.specs.Indexed.{place_of, Indexed}
use Rattle.compact.specs.Links.{links_of}
use Rattle.traces.specs.Traces.{rest_of, rests_of, indexed_at, rights_of}
use Rattle.half_chains.specs.Shelf.{Seeking, halves_from, halves_below, halves_of, shelf_of, halves_before}
use Rattle.half_chains.specs.declared.sought.Sought.{Sought}
use Rattle.traces.proofs.Turns.{further}
use Rattle.traces.proofs.Steps.{get_or_in}
use Rattle.half_chains.proofs.Shelving.{below_next, shelf_next}
use Rattle.traces.proofs.Meeting.{flat_map_same, following-onward, starting_at}

-- ---- those that start at a person

starting_append : (a b : List (List ℕ)) (p : ℕ) → starting_at (a ++ b) p ≡ starting_at a p ++ starting_at b p
unfolding starting_at
starting_append [] b p = refl
starting_append ([] ∷ a) b p = starting_append a b p
starting_append ((m ∷ h) ∷ a) b p = rw (starting_append a b p) (go (eqb p m))
  where
    go : (x : Bool) → cond x (h ∷ (starting_at a p ++ starting_at b p)) (starting_at a p ++ starting_at b p) ≡ cond x (h ∷ starting_at a p) (starting_at a p) ++ starting_at b p
    go true = refl
    go false = refl

starting_map : (q : ℕ) (ws : List (List ℕ)) (p : ℕ) → starting_at (map (◌∷◌ q) ws) p ≡ cond (eqb p q) ws []
unfolding starting_at
starting_map q [] p = go (eqb p q)
  where
    go : (x : Bool) → ◌≡◌ {A = List (List ℕ)} [] (cond x [] [])
    go true = refl
    go false = refl
starting_map q (w ∷ ws) p = rw (starting_map q ws p) (go (eqb p q))
  where
    go : (x : Bool) → cond x (w ∷ cond x ws []) (cond x ws []) ≡ cond x (w ∷ ws) []
    go true = refl
    go false = refl

starting_row : (T : ℕ → List (List ℕ)) (n p : ℕ) → starting_at (flat_map (λ q. map (◌∷◌ q) (T q)) (persons_below n)) p ≡ cond (ltb p n) (T p) []
unfolding persons_below flat_map starting_at
starting_row T zero p = rw (le-ltb p 0 (omega arith))
starting_row T (suc n) p =
    ap (λ l. starting_at l p) (flat_map_append (λ q. map (◌∷◌ q) (T q)) (persons_below n) (n ∷ []))
    ∙ starting_append (flat_map (λ q. map (◌∷◌ q) (T q)) (persons_below n)) (map (◌∷◌ n) (T n) ++ []) p
    ∙ rw (starting_row T n p, append-nil (map (◌∷◌ n) (T n)), starting_map n (T n) p)
    (three (lt_or_le p n) (same_or_not p n))
  where
    three : (p < n) ⊎ (n ≤ p) → (p ≡ n) ⊎ (p ≡ n → ⊥) → cond (ltb p n) (T p) [] ++ cond (eqb p n) (T n) [] ≡ cond (ltb p (suc n)) (T p) []
    three (inl l) e = rw (lt-ltb p n l, lt-ltb p (suc n) (omega arith), ne_eqb p n (λ q. omega arith)) (append-nil (T p))
    three (inr l) (inl e) = rw (le-ltb p n l, lt-ltb p (suc n) (omega arith), eq-eqb p n e) (ap T (sym e))
    three (inr l) (inr i) = rw (le-ltb p n l, le-ltb p (suc n) (omega (arith, i)), ne_eqb p n i)

-- ---- in the cells

-- a half chain without its first person
abbrev pub behind : List ℕ → List ℕ
behind [] = []
behind (p ∷ h) = h

part_record : (j : ℕ) (h cells : List ℕ) → Fits record_size h → hops h ≡ j → take j (drop 2 (record_of record_size h ++ cells)) ≡ behind h
unfolding record_of
part_record j [] cells f e = absurd (omega (arith, f.some))
part_record j (p ∷ h) cells f e = ap (take j) (append_assoc h (replicate (record_size - suc (suc (length h))) 0) cells) ∙ take_at h (replicate (record_size - suc (suc (length h))) 0 ++ cells) j e

rests_cells : (j : ℕ) (a b c : List (List ℕ)) (cells : List ℕ) → ((h : List ℕ) → h ∈ a → Fits record_size h) → ((h : List ℕ) → h ∈ b → Fits record_size h × (hops h ≡ j))
    → rests_of (cells_of record_size (a ++ (b ++ c)) ++ cells) j (length a) (length b) ≡ map behind b
unfolding rests_of cells_of
rests_cells j a [] c cells f i = refl
rests_cells j a (h ∷ b) c cells f i =
    let x = i h (Memᴰ.head refl) in
    let whole : cells_of record_size (a ++ (h ∷ (b ++ c))) ++ cells ≡ cells_of record_size a ++ (record_of record_size h ++ (cells_of record_size (b ++ c) ++ cells)) =
    ap (λ (l : List ℕ). l ++ cells) (cells_of_append record_size a (h ∷ (b ++ c))) ∙ append_assoc (cells_of record_size a) (record_of record_size h ++ cells_of record_size (b ++ c)) cells ∙ ap (λ (l : List ℕ). cells_of record_size a ++ l) (append_assoc (record_of record_size h) (cells_of record_size (b ++ c)) cells) in
    let n : length a * record_size + 2 ≡ length (cells_of record_size a) + 2 = omega (arith, length-cells_of record_size a f) in
    let front : rest_of (cells_of record_size (a ++ (h ∷ (b ++ c))) ++ cells) j (length a) ≡ behind h =
    ap (λ (l : List ℕ). take j (drop (length a * record_size + 2) l)) whole
    ∙ ap (λ (m : ℕ). take j (drop m (cells_of record_size a ++ (record_of record_size h ++ (cells_of record_size (b ++ c) ++ cells))))) n
    ∙ ap (take j) (drop-append-add (cells_of record_size a) (record_of record_size h ++ (cells_of record_size (b ++ c) ++ cells)) 2)
    ∙ part_record j h (cells_of record_size (b ++ c) ++ cells) x.0 x.1 in
    let more : suc (length a) ≡ length (a ++ (h ∷ [])) = omega (arith, length-append a (h ∷ [])) in
    let on = rests_cells j (a ++ (h ∷ [])) b c cells (λ d m. ⊎_elim (f d) (λ q. ⊎_elim (λ y. subst (λ z. Fits record_size z) (sym y) x.0) (λ y. absurd (Memᴰ.not-nil y)) (Memᴰ.cases_cons q)) (Memᴰ.append_cases a m)) (λ d m. i d (Memᴰ.tail m)) in
    rw (front) (ap (◌∷◌ (behind h)) (ap (λ (m : ℕ). rests_of (cells_of record_size (a ++ (h ∷ (b ++ c))) ++ cells) j m (length b)) more ∙ ap (λ (l : List (List ℕ)). rests_of (cells_of record_size l ++ cells) j (length (a ++ (h ∷ []))) (length b)) (sym (append_snoc a h (b ++ c))) ∙ on))

-- each cell of a record is a person, as the hops and the zeros are
in_zeros : (n x : ℕ) → x ∈ replicate n 0 → x ≡ 0
in_zeros zero x m = absurd (Memᴰ.not-nil m)
in_zeros (suc n) x m = ⊎_elim (λ e. e) (in_zeros n x) (Memᴰ.cases_cons m)

record_people : (h : List ℕ) → Fits record_size h → ((x : ℕ) → x ∈ h → x < persons) → (x : ℕ) → x ∈ record_of record_size h → x < persons
unfolding record_of
record_people [] f p x m = absurd (omega (arith, f.some))
record_people (q ∷ h) f p x m = ⊎_elim (λ e. omega (arith, e, f.room)) (λ i. ⊎_elim (p x) (λ z. omega (arith, in_zeros (record_size - suc (suc (length h))) x z)) (Memᴰ.append_cases (q ∷ h) i)) (Memᴰ.cases_cons m)

cells_people : (hs : List (List ℕ)) → ((h : List ℕ) → h ∈ hs → Fits record_size h × ((x : ℕ) → x ∈ h → x < persons)) → (x : ℕ) → x ∈ cells_of record_size hs → x < persons
unfolding cells_of
cells_people [] f x m = absurd (Memᴰ.not-nil m)
cells_people (h ∷ hs) f x m =
    let a = f h (Memᴰ.head refl) in
    ⊎_elim (record_people h a.0 a.1 x) (cells_people hs (λ d i. f d (Memᴰ.tail i)) x) (Memᴰ.append_cases (record_of record_size h) m)

-- ---- the half chains that are sought

module _ {graph : lent.Graph} {sought : Sought} (k : Seeking graph sought) where
  half_people : (h : List ℕ) → Last sought.to h → Linked (links_of graph) h → (x : ℕ) → x ∈ h → x < persons
  half_people [] last link x m = absurd last
  half_people (p ∷ []) last link x m = ⊎_elim (λ e. omega (arith, e, last, k.target, k.known)) (λ i. absurd (Memᴰ.not-nil i)) (Memᴰ.cases_cons m)
  half_people (p ∷ q ∷ h) last link x m = ⊎_elim (λ e. omega (arith, e, k.low p q link.0, k.known)) (half_people (q ∷ h) last link.1 x) (Memᴰ.cases_cons m)

  abbrev all : List (List ℕ)
  all = halves (links_of graph) sought.persons sought.from sought.to sought.hops

  pub all_fit_lem : (h : List ℕ) → h ∈ all → Fits record_size h
  all_fit_lem h m = half_fits (links_of graph) sought.persons sought.from sought.to k.differ k.low sought.hops record_size (omega (arith, k.few)) h m

  all_people : (h : List ℕ) → h ∈ all → Fits record_size h × ((x : ℕ) → x ∈ h → x < persons)
  all_people h m = let r = ((halves_exact (links_of graph) sought.persons sought.from sought.to k.differ k.low sought.hops h).0 m).0 in (all_fit_lem h m, half_people h r.last r.linked)

  -- those of j hops that start at p, without p
  abbrev rest_from : ℕ → ℕ → List (List ℕ)
  rest_from j p = cond (eqb p sought.from) [] (onward (links_of graph) (λ q. eqb q sought.to) j (p ∷ sought.from ∷ []) p)

  rest-hops : (j p : ℕ) (w : List ℕ) → w ∈ rest_from j p → length w ≡ j
  rest-hops j p w m = go (eqb p sought.from) m
    where
      go : (b : Bool) → w ∈ cond b [] (onward (links_of graph) (λ q. eqb q sought.to) j (p ∷ sought.from ∷ []) p) → length w ≡ j
      go true i = absurd (Memᴰ.not-nil i)
      go false i = (onward_from (links_of graph) (λ q. eqb q sought.to) j (p ∷ sought.from ∷ []) p i).exactly

  row-halves : (j : ℕ) → flat_map (λ p. map (◌∷◌ p) (rest_from j p)) (persons_below sought.persons) ≡ all_half_chains (links_of graph) sought.persons sought.from sought.to j
  row-halves j =
      flat_map_same _ _ (persons_below sought.persons) (λ p m. go p (eqb p sought.from))
      ∙ sym (all_half_chains-onward (links_of graph) graph.compact.rising sought.persons k.low sought.from sought.to k.differ k.target j)
    where
      go : (p : ℕ) (b : Bool) → map (◌∷◌ p) (cond b [] (onward (links_of graph) (λ q. eqb q sought.to) j (p ∷ sought.from ∷ []) p)) ≡ cond b [] (map (◌∷◌ p) (onward (links_of graph) (λ q. eqb q sought.to) j (p ∷ sought.from ∷ []) p))
      go p true = refl
      go p false = refl

  starting_half : (j p : ℕ) → starting_at (all_half_chains (links_of graph) sought.persons sought.from sought.to j) p ≡ cond (ltb p sought.persons) (rest_from j p) []
  starting_half j p = ap (λ h. starting_at h p) (sym (row-halves j)) ∙ starting_row (rest_from j) sought.persons p

  -- ---- From is marked

  module _ (marks : List Bool) (marked : Marked marks (sought.from ∷ [])) where
    from_half : (j p : ℕ) → p < persons → halves_from (links_of graph) sought.to marks j p ≡ map (◌∷◌ p) (rest_from j p)
    unfolding among
    from_half j p l = rw (marked.each p, following-onward graph sought.to j (set marks p true) (p ∷ sought.from ∷ []) p (marked_more p l marked) l) (go (eqb p sought.from))
      where
        go : (b : Bool) → cond (cond b true false) [] (map (◌∷◌ p) (onward (links_of graph) (λ q. eqb q sought.to) j (p ∷ sought.from ∷ []) p)) ≡ map (◌∷◌ p) (cond b [] (onward (links_of graph) (λ q. eqb q sought.to) j (p ∷ sought.from ∷ []) p))
        go true = refl
        go false = refl

    of_halves : (j : ℕ) → halves_of (links_of graph) sought.persons sought.to marks j ≡ all_half_chains (links_of graph) sought.persons sought.from sought.to j
    unfolding halves_of all_half_chains onward
    of_halves zero = from_half 0 sought.to (omega (arith, k.target, k.known)) ∙ rw (ne_eqb sought.to sought.from (λ e. k.differ (sym e)), eq-eqb sought.to sought.to refl)
    of_halves (suc j) = flat_map_same _ _ (persons_below sought.persons) (λ p m. from_half (suc j) p (omega (arith, persons_below_lem sought.persons m, k.known))) ∙ row-halves (suc j)

    -- all that is handed over
    pub all_halves : shelf_of (links_of graph) sought.persons sought.to marks (sought.hops / 2) ≡ all
    all_halves = ap (λ f. shorter_first f (sought.hops / 2)) (fun_ext of_halves)

    -- the half chains are written; the index says how many stand before each place, and nothing of whoever is no person of the file
    module _ (working index : List ℕ) (room : length all * record_size ≤ length working) (wide : most_hops / 2 * suc persons ≤ length index)
        (notes : (j p : ℕ) → j < sought.hops / 2 → p ≤ sought.persons → get_or index (place_of (suc j) p) 0 ≡ length (halves_before (links_of graph) sought.persons sought.to marks j p))
        (empty : (j p : ℕ) → sought.persons < p → p ≤ persons → get_or index (place_of (suc j) p) 0 ≡ 0) where
      before-next : (j p : ℕ) → p < persons → halves_before (links_of graph) sought.persons sought.to marks j (suc p) ≡ halves_before (links_of graph) sought.persons sought.to marks j p ++ map (◌∷◌ p) (rest_from (suc j) p)
      before-next j p l =
          ap (λ (x : List (List ℕ)). shelf_of (links_of graph) sought.persons sought.to marks j ++ x) (below_next (links_of graph) sought.to marks (suc j) p ∙ ap (λ (x : List (List ℕ)). halves_below (links_of graph) sought.to marks (suc j) p ++ x) (from_half (suc j) p l))
          ∙ sym (append_assoc (shelf_of (links_of graph) sought.persons sought.to marks j) (halves_below (links_of graph) sought.to marks (suc j) p) (map (◌∷◌ p) (rest_from (suc j) p)))

      -- all of them, in front of a place, at it and behind it
      parted : (j p : ℕ) → j < sought.hops / 2 → p < sought.persons → (rest : List (List ℕ)) × (all ≡ halves_before (links_of graph) sought.persons sought.to marks j p ++ (map (◌∷◌ p) (rest_from (suc j) p) ++ rest))
      unfolding halves_of
      parted j p h l =
          let rows_on = further (shelf_of (links_of graph) sought.persons sought.to marks) (λ i. halves_of (links_of graph) sought.persons sought.to marks (suc i)) (shelf_next (links_of graph) sought.persons sought.to marks) (suc j) (sought.hops / 2) (omega arith) in
          let persons-on = further (halves_below (links_of graph) sought.to marks (suc j)) (halves_from (links_of graph) sought.to marks (suc j)) (below_next (links_of graph) sought.to marks (suc j)) (suc p) sought.persons (omega arith) in (
            persons-on.0 ++ rows_on.0,
            sym all_halves ∙ rows_on.1
                ∙ ap (λ (x : List (List ℕ)). x ++ rows_on.0) (shelf_next (links_of graph) sought.persons sought.to marks j ∙ ap (λ (x : List (List ℕ)). shelf_of (links_of graph) sought.persons sought.to marks j ++ x) persons-on.1 ∙ sym (append_assoc (shelf_of (links_of graph) sought.persons sought.to marks j) (halves_below (links_of graph) sought.to marks (suc j) (suc p)) persons-on.0) ∙ ap (λ (x : List (List ℕ)). x ++ persons-on.0) (before-next j p (omega (arith, k.known))))
                ∙ append_assoc (halves_before (links_of graph) sought.persons sought.to marks j p ++ map (◌∷◌ p) (rest_from (suc j) p)) persons-on.0 rows_on.0
                ∙ append_assoc (halves_before (links_of graph) sought.persons sought.to marks j p) (map (◌∷◌ p) (rest_from (suc j) p)) (persons-on.0 ++ rows_on.0),
          )

      next_place : (j p : ℕ) → place_of (suc j) p + 1 ≡ place_of (suc j) (suc p)
      next_place j p = omega arith

      next_note : (j p : ℕ) → j < sought.hops / 2 → p < sought.persons → get_or index (place_of (suc j) p + 1) 0 ≡ length (halves_before (links_of graph) sought.persons sought.to marks j p) + length (map (◌∷◌ p) (rest_from (suc j) p))
      next_note j p h l =
          ap (λ (c : ℕ). get_or index c 0) (next_place j p)
          ∙ notes j (suc p) h (omega arith)
          ∙ ap length (before-next j p (omega (arith, k.known)))
          ∙ length-append (halves_before (links_of graph) sought.persons sought.to marks j p) (map (◌∷◌ p) (rest_from (suc j) p))

      next_empty : (j p : ℕ) → sought.persons ≤ p → p < persons → get_or index (place_of (suc j) p + 1) 0 ≡ 0
      next_empty j p h l = ap (λ (c : ℕ). get_or index c 0) (next_place j p) ∙ empty j (suc p) (omega arith) (omega arith)

      same : (ws : List (List ℕ)) → map (λ w. w) ws ≡ ws
      same [] = refl
      same (w ∷ ws) = ap (◌∷◌ w) (same ws)

      -- those of one hop or more that start at a person of the file, and of whoever is none
      rights_file : (j p : ℕ) → j < sought.hops / 2 → p < sought.persons → indexed_at (written record_size all working) index (suc j) p ≡ starting_at (all_half_chains (links_of graph) sought.persons sought.from sought.to (suc j)) p
      unfolding written
      rights_file j p h l =
          let a = halves_before (links_of graph) sought.persons sought.to marks j p in
          let b = map (◌∷◌ p) (rest_from (suc j) p) in
          let q = parted j p h l in
          let n : get_or index (place_of (suc j) p + 1) 0 - get_or index (place_of (suc j) p) 0 ≡ length b = omega (arith, notes j p h (omega arith), next_note j p h l) in
          ap (λ (m : ℕ). rests_of (written record_size all working) (suc j) (get_or index (place_of (suc j) p) 0) m) n
          ∙ ap (λ (m : ℕ). rests_of (written record_size all working) (suc j) m (length b)) (notes j p h (omega arith))
          ∙ ap (λ (x : List (List ℕ)). rests_of (cells_of record_size x ++ drop (length all * record_size) working) (suc j) (length a) (length b)) q.1
          ∙ rests_cells (suc j) a b q.0 (drop (length all * record_size) working)
          (λ d m. all_fit_lem d (subst (λ x. d ∈ x) (sym q.1) (Memᴰ.append_left (b ++ q.0) m)))
          (λ d m. (all_fit_lem d (subst (λ x. d ∈ x) (sym q.1) (Memᴰ.append_right a (Memᴰ.append_left q.0 m))), let r = Memᴰ.of_map (◌∷◌ p) (rest_from (suc j) p) m in subst (λ x. hops x ≡ suc j) r.2 (rest-hops (suc j) p r.0 r.1)))
          ∙ map-map behind (◌∷◌ p) (rest_from (suc j) p)
          ∙ same (rest_from (suc j) p)
          ∙ sym (starting_half (suc j) p ∙ rw (lt-ltb p sought.persons l))

      rights_other : (j p : ℕ) → sought.persons ≤ p → p < persons → indexed_at (written record_size all working) index (suc j) p ≡ starting_at (all_half_chains (links_of graph) sought.persons sought.from sought.to (suc j)) p
      unfolding rests_of
      rights_other j p h l =
          let n : get_or index (place_of (suc j) p + 1) 0 - get_or index (place_of (suc j) p) 0 ≡ 0 = omega (arith, next_empty j p h l) in
          ap (λ (m : ℕ). rests_of (written record_size all working) (suc j) (get_or index (place_of (suc j) p) 0) m) n
          ∙ sym (starting_half (suc j) p ∙ rw (le-ltb p sought.persons h))

      pub rights_index : (j : ℕ) → j ≤ sought.hops / 2 → (p : ℕ) → p < persons → rights_of (written record_size all working) index sought.to j p ≡ starting_at (all_half_chains (links_of graph) sought.persons sought.from sought.to j) p
      unfolding starting_at all_half_chains
      rights_index zero h p l = refl
      rights_index (suc j) h p l = rw (ne_eqb (suc j) 0 (λ e. omega arith)) (⊎_elim (rights_file j p (omega arith)) (λ i. rights_other j p i l) (lt_or_le p sought.persons))

      written_long : length (written record_size all working) ≡ length working
      written_long = length-written record_size all working all_fit_lem room

      -- no end of the index is behind all
      ends : (j p : ℕ) → j < sought.hops / 2 → p < persons → get_or index (place_of (suc j) p + 1) 0 ≤ length all
      ends j p h l =
          ⊎_elim
          (λ i. let q = parted j p h i in
          omega (arith, next_note j p h i, ap length q.1, length-append (halves_before (links_of graph) sought.persons sought.to marks j p) (map (◌∷◌ p) (rest_from (suc j) p) ++ q.0), length-append (map (◌∷◌ p) (rest_from (suc j) p)) q.0))
          (λ i. omega (arith, next_empty j p i l))
          (lt_or_le p sought.persons)

      pub indexed_halves : (j : ℕ) → 1 ≤ j → j ≤ sought.hops / 2 → Indexed (written record_size all working) index j
      unfolding written
      indexed_halves zero i h = absurd (omega arith)
      indexed_halves (suc j) i h = record {
        some = i;
        within = omega (arith, wide, h, k.few);
        there = λ p l. omega (arith, ends j p (omega arith) l, room, written_long);
        people = λ p l c m.
            let inside : c < length (cells_of record_size all) = omega (arith, length-cells_of record_size all all_fit_lem, ends j p (omega arith) l, m) in
            rw (get_or-append (cells_of record_size all) (drop (length all * record_size) working) 0 c inside) (cells_people all all_people (get_or (cells_of record_size all) c 0) (get_or_in (cells_of record_size all) c inside));
      }
