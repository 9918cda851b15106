-- The ways on by marks are those of the definitions by persons seen: half chains, and left halves with the right halves that they meet.
use mathlib.Core.Path.{◌≡◌, refl, sym, ap, ◌∙◌}
use mathlib.Core.Bool.{Bool, true, false, cond, not, ◌&&◌}
use mathlib.Core.List.Memᴰ
use mathlib.Core.List.{List, [], ◌∷◌, ◌++◌, map, flat_map, map-map, map-append, append-nil}
use Prim.Native.Nat.{ℕ, zero, suc, ◌<◌}
use lib.ListN.{get_or, set}
use lib.Seq.{append_snoc}
use lib.Dec.{eqb}
use Rattle.ways.specs.Graph.{◌∈◌, among, keep}
use Rattle.ways.specs.Chain.{Last}
use Rattle.ways.specs.Portions.{last_or}
use Rattle.ways.specs.Join.{onward, left_halves, none_among, meets, glue}
use Rattle.ways.proofs.Members.{flat_map_append}
use Rattle.ways.proofs.Cut.{last_last_or, last_snoc}
use Rattle.compact.specs.Compact.{persons}
use Rattle.compact.specs.declared.Graph as lent
use Rattle.compact.specs.Marks.{Marked}
use Rattle.compact.proofs.Rows.{row_people}
use Rattle.compact.proofs.Marking.{marked_more}
use Rattle.compact.specs.Links.{links_of}
use Rattle.traces.specs.Traces.{clear, ending_at, following, taking}

-- ---- rows in parts

module _ {A B : Type 0} where
  pub flat_map_same : (f h : A → List B) (l : List A) → ((x : A) → x ∈ l → f x ≡ h x) → flat_map f l ≡ flat_map h l
  unfolding flat_map
  flat_map_same f h [] e = refl
  flat_map_same f h (x ∷ l) e = rw (e x (Memᴰ.head refl), flat_map_same f h l (λ y m. e y (Memᴰ.tail m)))

module _ {A B C : Type 0} where
  flat_map_flat_map : (f : B → List C) (h : A → List B) (l : List A) → flat_map f (flat_map h l) ≡ flat_map (λ x. flat_map f (h x)) l
  unfolding flat_map
  flat_map_flat_map f h [] = refl
  flat_map_flat_map f h (x ∷ l) = flat_map_append f (h x) (flat_map h l) ∙ ap (λ (m : List C). flat_map f (h x) ++ m) (flat_map_flat_map f h l)

  flat_map_map : (f : B → List C) (h : A → B) (l : List A) → flat_map f (map h l) ≡ flat_map (λ x. f (h x)) l
  unfolding flat_map
  flat_map_map f h [] = refl
  flat_map_map f h (x ∷ l) = ap (λ (m : List C). f (h x) ++ m) (flat_map_map f h l)

  map-flat_map : (f : B → C) (h : A → List B) (l : List A) → map f (flat_map h l) ≡ flat_map (λ x. map f (h x)) l
  unfolding flat_map
  map-flat_map f h [] = refl
  map-flat_map f h (x ∷ l) = rw (map-append, map-flat_map f h l)

-- ---- marks

-- nobody marked, nobody among those seen
clear_none : {marks : List Bool} {seen : List ℕ} → Marked marks seen → (w : List ℕ) → clear marks w ≡ none_among w seen
unfolding none_among
clear_none m [] = refl
clear_none {seen = seen} m (v ∷ w) = rw (m.each v, clear_none m w) (go (among v seen))
  where
    go : (b : Bool) → (not b && none_among w seen) ≡ cond b false (none_among w seen)
    go true = refl
    go false = refl

-- ---- half chains: what follows ends at To

pub following-onward : (g : lent.Graph) (t i : ℕ) (marks : List Bool) (seen : List ℕ) (p : ℕ) → Marked marks seen → p < persons
    → following (links_of g) (ending_at t) i marks p ≡ onward (links_of g) (λ q. eqb q t) i seen p
unfolding following onward keep
following-onward g t zero marks seen p m l = go (eqb p t)
  where
    go : (b : Bool) → keep (clear marks) (cond b ([] ∷ []) []) ≡ cond b ([] ∷ []) []
    go true = refl
    go false = refl
following-onward g t (suc i) marks seen p m l =
    flat_map_same _ _ (links_of g p) (λ v j. let h = row_people p g.compact l j in rw (m.each v, following-onward g t i (set marks v true) (v ∷ seen) v (marked_more v h m) h))

-- ---- chains: a left half, and the right halves that start where it ends

-- the rests of the half chains that start at p
unfoldable pub starting_at : List (List ℕ) → ℕ → List (List ℕ)
starting_at [] p = []
starting_at ([] ∷ hs) p = starting_at hs p
starting_at ((m ∷ h) ∷ hs) p = cond (eqb p m) (h ∷ starting_at hs p) (starting_at hs p)

same_among : (w a b : List ℕ) → ((x : ℕ) → among x a ≡ among x b) → none_among w a ≡ none_among w b
unfolding none_among
same_among [] a b e = refl
same_among (v ∷ w) a b e = rw (e v, same_among w a b e)

-- the left half is l, and its middle person p
module _ {marks : List Bool} {seen : List ℕ} (m : Marked marks seen) where
  meet_here : (l : List ℕ) (p : ℕ) (hs : List (List ℕ)) → ((x : ℕ) → among x l ≡ among x seen) → Last p l → map (λ w. l ++ w) (keep (clear marks) (starting_at hs p)) ≡ map (glue l) (keep (meets l) hs)
  unfolding starting_at keep meets
  meet_here [] p hs e last = absurd last
  meet_here (q ∷ l) p [] e last = refl
  meet_here (q ∷ l) p ([] ∷ hs) e last = meet_here (q ∷ l) p hs e last
  meet_here (q ∷ l) p ((v ∷ h) ∷ hs) e last =
      let end : last_or q l ≡ p = last_last_or p q l last in
      let same : none_among h (q ∷ l) ≡ clear marks h = same_among h (q ∷ l) seen e ∙ sym (clear_none m h) in
      rw (end, same) (go (eqb p v) (clear marks h) refl (meet_here (q ∷ l) p hs e last))
    where
      go : (a b : Bool) → clear marks h ≡ b → map (λ w. (q ∷ l) ++ w) (keep (clear marks) (starting_at hs p)) ≡ map (glue (q ∷ l)) (keep (meets (q ∷ l)) hs)
          → map (λ w. (q ∷ l) ++ w) (keep (clear marks) (cond a (h ∷ starting_at hs p) (starting_at hs p))) ≡ map (glue (q ∷ l)) (cond (cond a b false) ((v ∷ h) ∷ keep (meets (q ∷ l)) hs) (keep (meets (q ∷ l)) hs))
      go true true f r = rw (f, r)
      go true false f r = rw (f, r)
      go false b f r = r

among_snoc : (x v : ℕ) (l : List ℕ) → among x (l ++ (v ∷ [])) ≡ among x (v ∷ l)
unfolding among
among_snoc x v [] = refl
among_snoc x v (q ∷ l) = rw (among_snoc x v l) (go (eqb x q) (eqb x v) (among x l))
  where
    go : (a b c : Bool) → cond a true (cond b true c) ≡ cond b true (cond a true c)
    go true true c = refl
    go true false c = refl
    go false true c = refl
    go false false c = refl

among_more : (x v : ℕ) (l seen : List ℕ) → among x l ≡ among x seen → among x (l ++ (v ∷ [])) ≡ among x (v ∷ seen)
unfolding among
among_more x v l seen e = among_snoc x v l ∙ ap (cond (eqb x v) true) e

module _ (g : lent.Graph) (rights : ℕ → List (List ℕ)) (hs : List (List ℕ)) (starts : (p : ℕ) → p < persons → rights p ≡ starting_at hs p) where
  meet : (i : ℕ) (marks : List Bool) (seen l : List ℕ) (p : ℕ) → Marked marks seen → ((x : ℕ) → among x l ≡ among x seen) → Last p l → p < persons
      → map (λ w. l ++ w) (following (links_of g) rights i marks p) ≡ flat_map (λ w. map (glue (l ++ w)) (keep (meets (l ++ w)) hs)) (onward (links_of g) (λ q. true) i seen p)
  unfolding following onward flat_map
  meet zero marks seen l p m e last h =
      ap (λ (r : List (List ℕ)). map (λ w. l ++ w) (keep (clear marks) r)) (starts p h)
      ∙ meet_here m l p hs e last
      ∙ ap (λ (r : List ℕ). map (glue r) (keep (meets r) hs)) (sym (append-nil l))
      ∙ sym (append-nil (map (glue (l ++ [])) (keep (meets (l ++ [])) hs)))
  meet (suc i) marks seen l p m e last h =
      map-flat_map (λ w. l ++ w) (taking (links_of g) rights i marks) (links_of g p)
      ∙ flat_map_same _ _ (links_of g p) (λ v j.
      let b = row_people p g.compact h j in
      step v (among v seen) (m.each v)
      (meet i (set marks v true) (v ∷ seen) (l ++ (v ∷ [])) v (marked_more v b m) (λ x. among_more x v l seen (e x)) (last_snoc v l) b))
      ∙ sym (flat_map_flat_map (λ w. map (glue (l ++ w)) (keep (meets (l ++ w)) hs)) (λ v. cond (among v seen) [] (map (◌∷◌ v) (onward (links_of g) (λ q. true) i (v ∷ seen) v))) (links_of g p))
    where
      step : (v : ℕ) (b : Bool) → get_or marks v false ≡ b
          → map (λ w. (l ++ (v ∷ [])) ++ w) (following (links_of g) rights i (set marks v true) v) ≡ flat_map (λ w. map (glue ((l ++ (v ∷ [])) ++ w)) (keep (meets ((l ++ (v ∷ [])) ++ w)) hs)) (onward (links_of g) (λ q. true) i (v ∷ seen) v)
          → map (λ w. l ++ w) (taking (links_of g) rights i marks v) ≡ flat_map (λ w. map (glue (l ++ w)) (keep (meets (l ++ w)) hs)) (cond b [] (map (◌∷◌ v) (onward (links_of g) (λ q. true) i (v ∷ seen) v)))
      step v true f on = rw f
      step v false f on =
          rw f
          (map-map (λ w. l ++ w) (◌∷◌ v) (following (links_of g) rights i (set marks v true) v)
          ∙ same_map (following (links_of g) rights i (set marks v true) v)
          ∙ on
          ∙ flat_map_same _ _ (onward (links_of g) (λ q. true) i (v ∷ seen) v) (λ w j. ap (λ (r : List ℕ). map (glue r) (keep (meets r) hs)) (append_snoc l v w))
          ∙ sym (flat_map_map (λ w. map (glue (l ++ w)) (keep (meets (l ++ w)) hs)) (◌∷◌ v) (onward (links_of g) (λ q. true) i (v ∷ seen) v)))
        where
          same_map : (ws : List (List ℕ)) → map (λ w. l ++ (v ∷ w)) ws ≡ map (λ w. (l ++ (v ∷ [])) ++ w) ws
          same_map [] = refl
          same_map (w ∷ ws) = rw (append_snoc l v w, same_map ws)

  -- the chains whose halves are of so many hops
  pub meet_all : (i s : ℕ) (marks : List Bool) → Marked marks (s ∷ []) → s < persons
      → map (◌∷◌ s) (following (links_of g) rights i marks s) ≡ flat_map (λ l. map (glue l) (keep (meets l) hs)) (left_halves (links_of g) s i)
  unfolding left_halves
  meet_all i s marks m h =
      meet i marks (s ∷ []) (s ∷ []) s m (λ x. refl) refl h
      ∙ sym (flat_map_map (λ l. map (glue l) (keep (meets l) hs)) (◌∷◌ s) (onward (links_of g) (λ q. true) i (s ∷ []) s))
