-- The two methods of the cycle: one law for each of their needs, named after the place in the code.
use mathlib.Core.Path.{◌≡◌, refl, sym, ap, subst, ◌∙◌}
use mathlib.Core.Bool.{Bool, true, false, cond}
use mathlib.Core.List.Memᴰ
use mathlib.Core.List.{List, [], ◌∷◌, flat_map, map, map-map, map-append, map-eq-nil_iff}
use mathlib.Core.Logic.{⊎_elim}
use Prim.Native.Nat.{ℕ, zero, suc, ◌+◌, ◌-◌, ◌≤◌, ◌<◌}
use lib.ListN.{length, get_or, set, drop, length-set, drop_of_length-le}
use lib.Seq.{drop-cons, get_or-set_same, get_or-set_other, set-set, set-get_or}
use lib.Dec.{eqb}
use native.Mathlib.Omega.{arith}
use native.Mathlib.Numerals.{add-one}
use borrow.Author.Tests.{eq-eqb, ne_eqb}
use Rattle.std.specs.Prelude.{Some}
use Rattle.std.specs.Borrow.{Bor}
use Rattle.std.specs.declared.cmp.Ordering.{Ordering}
use Rattle.std.specs.Ordering.{is_lt, is_eq, is_gt}
use Rattle.ways.specs.Graph.{among, ◌∈◌}
use Rattle.ways.specs.Listing.{by, ways}
use Rattle.ways.proofs.Cases.{lt_or_le}
use Rattle.ways.proofs.Way.{ways-links}
use Rattle.ways.proofs.Barrier.{last_hop}
use Rattle.compact.proofs.Marking.{marked_more}
use Rattle.compact.proofs.Rows.{row_people}
use Rattle.pages.specs.Pages.{Page, emits, record_with}
use Rattle.pages.proofs.Handing.{emits-append, emits_more, emits_none}
use Rattle.barriers.specs.Barriers.{Barred}
use Rattle.barriers.specs.Settling.{Settled}
use Rattle.barriers.proofs.Holding.{barred_none, barred_trans, hold_push}
use Rattle.search.specs.HandingOver.{page, Handed}
use Rattle.search.specs.Bookmarks.{onward, kept, Tight, Beside}
use Rattle.compact.specs.Links.{links_of}
use Rattle.search.specs.Entering.{seen_of, Ready, following, handed, next, Same, Held, GoneThrough, Entered, Barren}
use Rattle.search.specs.Places.{Bookmark}
use Rattle.search.specs.declared.places.Stand.{Stand}
use Rattle.search.specs.declared.walk.Walk.{Walk}
use Rattle.search.proofs.Writing.{record_end, record_last}
use Rattle.search.proofs.Resuming.{onward_none, onward-append, onward_end, onward_left, behind_left, kept_same}

-- ---- the chain and the marks

-- a store behind the chain's end changes nobody in it
seen_set : (chain : List ℕ) (n i x : ℕ) → n < i → seen_of (set chain i x) n ≡ seen_of chain n
unfolding seen_of
seen_set chain zero i x h = refl
seen_set chain (suc n) i x h = rw (get_or-set_other chain i (suc n) x 0 (λ e. omega arith), seen_set chain n i x (omega arith))

-- one more in the chain
seen_more : (chain : List ℕ) (n x : ℕ) → n + 1 < length chain → seen_of (set chain (n + 1) x) (n + 1) ≡ x ∷ seen_of chain n
unfolding seen_of
seen_more chain n x h = rw (add-one, get_or-set_same chain (suc n) x 0 (omega arith), seen_set chain n (suc n) x (omega arith))

-- a cell that was set and put back
put_back : {A : Type 0} (l : List A) (i : ℕ) (x d : A) → get_or l i d ≡ d → set (set l i x) i d ≡ l
put_back l i x d h = set-set l i x d ∙ ap (set l i) (sym h) ∙ set-get_or l i d

-- ---- what stays

same_none : {walk : Walk} → Same walk walk
same_none = record { graph = refl; ask = refl; marks = refl; chain = refl }

same_trans : {a b c : Walk} → Same a b → Same b c → Same a c
same_trans p q = record { graph = q.graph ∙ p.graph; ask = q.ask ∙ p.ask; marks = q.marks ∙ p.marks; chain = q.chain ∙ p.chain }

module _ {walk : Walk} {out : List ℕ} {s : Stand} {tight : Bookmark} {v : ℕ} (k : Ready walk out s tight v) where
  here : Held walk walk s
  here = barred_none k.hold k.fits

  -- v stands before the bookmark's next person
  pub enter_skipped : {side : Ordering} → Beside tight s.len v side → is_lt side ≡ true → Entered walk walk out out s tight v false
  unfolding by emits
  enter_skipped side e = record { same = same_none; barred = here; right = go (eqb v walk.ask.to) (among v (seen_of walk.chain s.len)) (ways (links_of walk.graph) walk.ask.to (s.left - 1) (v ∷ seen_of walk.chain s.len) v) }
    where
      go : (a b : Bool) (ws : List (List ℕ)) → page walk false out ≡ emits true walk.ask.room (page walk false out) (map (record_with walk.chain s.len) (onward tight s.len (cond a ((v ∷ []) ∷ []) (cond b [] (map (◌∷◌ v) ws)))))
      go true b ws = rw (side.skipped e ([] ∷ []))
      go false true ws = rw onward_none
      go false false ws = rw (side.skipped e ws)

  -- v is To, and the bookmark's last person
  pub enter_bookmark : {side : Ordering} → Beside tight s.len v side → is_lt side ≡ false → is_eq side ≡ true → v ≡ walk.ask.to → Entered walk walk out out s tight v false
  unfolding by emits
  enter_bookmark side on e h =
      let b = side.same e in
      record { same = same_none; barred = here; right = rw (eq-eqb v walk.ask.to h, side.on on ([] ∷ []), e, b.1, onward_end b.0 (s.len + 1)) }

  -- only the count changed
  counted : {walk' : Walk} → walk' ≡ record walk { count = walk'.count } → Same walk walk' × Held walk walk' s
  counted {walk'} e = (
    record { graph = ap (λ (q : Walk). q.graph) e; ask = ap (λ (q : Walk). q.ask) e; marks = ap (λ (q : Walk). q.marks) e; chain = ap (λ (q : Walk). q.chain) e },
    rw (ap (λ (q : Walk). q.barriers) e, ap (λ (q : Walk). q.trail) e, ap (λ (q : Walk). q.height) e) here,
  )

  -- v is To
  pub enter_end : {walk' : Walk} {out' : List ℕ} {more : Bool} {side : Ordering} → Beside tight s.len v side → is_lt side ≡ false → is_eq side ≡ false → v ≡ walk.ask.to
      → Handed walk walk' out out' s.len v s.len more → Entered walk walk' out out' s tight v more
  unfolding by emits
  enter_end {side = side} b on left e h = record {
    same = (counted h.rest).0;
    barred = (counted h.rest).1;
    right = rw (eq-eqb v walk.ask.to e, b.on on ([] ∷ []), onward_left tight side (s.len + 1) ([] ∷ []) left, e) (rw (e, record_end) at h.right);
  }

  known : get_or walk.marks v false ≡ among v (seen_of walk.chain s.len)
  known = k.marked.each v

  -- v is in the chain
  pub enter_marked : (v ≡ walk.ask.to → ⊥) → get_or walk.marks v false ≡ true → Entered walk walk out out s tight v false
  unfolding by emits
  enter_marked ne h = record { same = same_none; barred = here; right = rw (ne_eqb v walk.ask.to ne, ← known, h, onward_none) }

  module _ (ne : v ≡ walk.ask.to → ⊥) (free : get_or walk.marks v false ≡ false) where
    -- v's barrier is too high
    pub enter_barred : s.left - 1 < get_or walk.barriers v 0 → Entered walk walk out out s tight v false
    unfolding by emits
    enter_barred h = record { same = same_none; barred = here; right = rw (ne_eqb v walk.ask.to ne, ← known, free, k.hold.sound v (s.left - 1) h, onward_none) }

    module _ (low : get_or walk.barriers v 0 ≤ s.left - 1) where
      -- whoever is not To has a barrier, so a hop is left behind v
      two : 2 ≤ s.left
      two = omega (arith, k.hold.far v k.place ne)

      -- the last hop
      pub enter_last : {walk' : Walk} {out' : List ℕ} {more : Bool} {side : Ordering} → Beside tight s.len v side → is_lt side ≡ false → is_gt side ≡ true → s.left - 1 ≡ 1
          → Handed walk walk' out out' s.len v (s.len + 1) more → Entered walk walk' out out' s tight v more
      unfolding by emits
      enter_last {side = side} b on left e h =
          let only : ways (links_of walk.graph) walk.ask.to (s.left - 1) (v ∷ seen_of walk.chain s.len) v ≡ (walk.ask.to ∷ []) ∷ [] = rw e (last_hop (links_of walk.graph) walk.ask.to (v ∷ seen_of walk.chain s.len) v (walk.graph.compact.rising v) (k.hold.near v k.place ne (omega (arith, low, e)))) in
          record {
            same = (counted h.rest).0;
            barred = (counted h.rest).1;
            right = rw (ne_eqb v walk.ask.to ne, ← known, free, only, b.on on ((walk.ask.to ∷ []) ∷ []), onward_left tight side (s.len + 1) ((walk.ask.to ∷ []) ∷ []) (behind_left side left)) (rw record_last at h.right);
          }

      seen_next : seen_of (set walk.chain (s.len + 1) v) (s.len + 1) ≡ v ∷ seen_of walk.chain s.len
      seen_next = seen_more walk.chain s.len v (omega (arith, k.short, k.long, two))

      -- while v is the bookmark's next person and not To, the bookmark goes on behind v
      next_on : (side : Ordering) → Beside tight s.len v side → (b : Bor (List ℕ)) → kept tight side ≡ Some b → s.len + 1 ≤ get_or b.now 0 0
      next_on side q b e =
          let same = kept_same tight side e in
          let here = q.same same.0 in
          let one : here.0 ≡ b = let a = here.1 in let z = same.1 in cc in
          let last : v ≡ get_or b.now (s.len + 1) 0 = rw one at here.2 in
          let goes = k.begun.begins b same.1 in
          ⊎_elim (λ l. omega arith) (λ l. absurd (ne (last ∙ ap (λ (n : ℕ). get_or b.now (n + 1) 0) (let m : s.len ≡ get_or b.now 0 0 = omega (arith, goes.on, l) in m) ∙ k.ends b same.1))) (lt_or_le s.len (get_or b.now 0 0))

      next_tight : (side : Ordering) → Beside tight s.len v side → Tight (kept tight side) (s.len + 1)
      next_tight side q = record {
        begins = λ b e.
            let goes = k.begun.begins b (kept_same tight side e).1 in
            record { cells = goes.cells; fits = goes.fits; on = next_on side q b e };
      }

      pub enter_ready : {side : Ordering} → Beside tight s.len v side → Ready (record walk { marks = set walk.marks v true; chain = set walk.chain (s.len + 1) v }) out (next s) (kept tight side) v
      enter_ready {side} q = record {
        place = k.place;
        marked = rw seen_next (marked_more v k.place k.marked);
        long = length-set walk.chain (s.len + 1) v ∙ k.long;
        blank = λ i l. get_or-set_other walk.chain (s.len + 1) i v 0 (λ e. omega arith) ∙ k.blank i (omega arith);
        some = omega (arith, two);
        short = omega (arith, k.short, two);
        room = k.room;
        begun = next_tight side q;
        ends = λ b e. k.ends b (kept_same tight side e).1;
        hold = rw seen_next (hold_push v k.hold);
        fits = k.fits;
      }

      module _ {walk' : Walk} {out' : List ℕ} {more : Bool} (side : Ordering)
          (done : GoneThrough (record walk { marks = set walk.marks v true; chain = set walk.chain (s.len + 1) v }) walk' out out' (next s) (kept tight side) v more) where
        on_barred : Barred (links_of walk.graph) walk.ask.to (v ∷ seen_of walk.chain s.len) (s.left - 1) walk.barriers walk'.barriers walk.trail walk'.trail walk.height walk'.height
        on_barred = rw seen_next at done.barred

        -- nothing was found, so no way leads on from v
        on_dead : Barren side walk.count walk'.count more → ways (links_of walk.graph) walk.ask.to (s.left - 1) (v ∷ seen_of walk.chain s.len) v ≡ []
        on_dead f =
            let right = rw seen_next at done.right in
            let none = emits_none true walk.ask.room (page walk false out) _ (sym (ap (λ (q : Page). q.more) right) ∙ f.none) (sym (ap (λ (q : Page). q.count) right) ∙ f.same) in
            sym (onward_left tight side _ _ (behind_left side f.loose)) ∙ (map-eq-nil_iff _).0 none

        pub enter_left : {barriers trail : List ℕ} {barren : Bool} {n : ℕ} → Beside tight s.len v side → is_lt side ≡ false → (barren ≡ true → Barren side walk.count walk'.count more) → Settled walk'.barriers barriers walk'.trail trail v (s.left - 1) barren walk.height walk'.height n
            → Entered walk (record walk' { marks = set walk'.marks v false; chain = set walk'.chain (s.len + 1) 0; barriers = barriers; trail = trail; height = n }) out out' s tight v more
        unfolding by record_with
        enter_left b on nothing settled =
            let left : s.left - 1 + 1 ≡ s.left = omega (arith, k.some) in
            record {
              same = record {
                graph = done.same.graph;
                ask = done.same.ask;
                marks = ap (λ (m : List Bool). set m v false) done.same.marks ∙ put_back walk.marks v true false free;
                chain = ap (λ (c : List ℕ). set c (s.len + 1) 0) done.same.chain ∙ put_back walk.chain (s.len + 1) v 0 (k.blank (s.len + 1) (omega arith));
              };
              right = rw (ne_eqb v walk.ask.to ne, ← known, free, b.on on, map-map) (rw seen_next at done.right);
              barred = rw left at (settled.barred (record { some = omega (arith, two); held = k.hold; since = on_barred }) (λ e. on_dead (nothing e)));
            }

-- ---- going through the links

-- who has a place among some stands there
stands : (row : List ℕ) (i : ℕ) → i < length row → get_or row i 0 ∈ row
stands [] i h = absurd (omega arith)
stands (x ∷ row) zero h = Memᴰ.head refl
stands (x ∷ row) (suc i) h = Memᴰ.tail (stands row i (omega arith))

-- the ways on through each of the persons
abbrev pub still : Walk → Stand → Bookmark → List ℕ → List (List ℕ)
still walk s tight row = onward tight s.len (flat_map (by walk.ask.to (seen_of walk.chain s.len) (ways (links_of walk.graph) walk.ask.to (s.left - 1))) row)

-- the loop's invariant: what was handed over, with what is still to come, is all
pub record Turning (walk₀ : Walk) (out₀ : List ℕ) (s : Stand) (tight : Bookmark) (at : ℕ) (row : List ℕ) (walk : Walk) (out : List ℕ) (i : ℕ) : Type 0 where
  pub ready : Ready walk₀ out₀ s tight at
  pub links : row ≡ links_of walk₀.graph at
  pub same : Same walk₀ walk
  pub barred : Held walk₀ walk s
  pub long : length out ≡ length out₀
  pub right : handed walk₀ s (page walk false out) (still walk₀ s tight (drop i row)) ≡ handed walk₀ s (page walk₀ false out₀) (following walk₀ s tight at)

module _ {walk : Walk} {out : List ℕ} {s : Stand} {tight : Bookmark} {at : ℕ} where
  pub go_start : {row : List ℕ} → Ready walk out s tight at → row ≡ links_of walk.graph at → Turning walk out s tight at row walk out 0
  go_start {row} k e = record {
    ready = k;
    links = e;
    same = same_none;
    barred = barred_none k.hold k.fits;
    long = refl;
    right = rw (e, ways-links (links_of walk.graph) walk.ask.to s.left (seen_of walk.chain s.len) at k.some);
  }

  module _ {row : List ℕ} {walk' : Walk} {out' : List ℕ} {i : ℕ} (inv : Turning walk out s tight at row walk' out' i) where
    pub go_enter : i < length row → Ready walk' out' s tight (get_or row i 0)
    go_enter lt = let k = inv.ready in record {
      place = row_people at walk.graph.compact k.place (subst (λ l. get_or row i 0 ∈ l) inv.links (stands row i lt));
      marked = rw (inv.same.marks, inv.same.chain) k.marked;
      long = ap length inv.same.chain ∙ k.long;
      blank = λ j l. rw inv.same.chain (k.blank j l);
      some = k.some;
      short = k.short;
      room = rw inv.same.ask (omega (arith, k.room, inv.long));
      begun = k.begun;
      ends = rw inv.same.ask k.ends;
      hold = rw (inv.same.graph, inv.same.ask, inv.same.chain) inv.barred.hold;
      fits = inv.barred.trailed.fits;
    }

    module _ {walk'' : Walk} {out'' : List ℕ} {more : Bool} (lt : i < length row) (e : Entered walk' walk'' out' out'' s tight (get_or row i 0) more) where
      step_right : handed walk s (page walk'' more out'') (still walk s tight (drop (i + 1) row)) ≡ handed walk s (page walk false out) (following walk s tight at)
      unfolding flat_map
      step_right = rw (rw (inv.same.graph, inv.same.ask, inv.same.chain) at e.right, ← emits-append, ← map-append, ← onward-append, add-one i) (rw (drop-cons row i 0 lt) at inv.right)

      step_barred : Held walk walk'' s
      step_barred = barred_trans inv.barred (rw (inv.same.graph, inv.same.ask, inv.same.chain) at e.barred)

      -- one more than there is room for was seen: nothing else is handed over
      pub go_stop : more ≡ true → GoneThrough walk walk'' out out'' s tight at true
      go_stop n = record { same = same_trans inv.same e.same; barred = step_barred; right = sym (emits_more true walk.ask.room (page walk'' true out'') _ refl) ∙ (rw n at step_right) }

      pub go_turn : length out'' ≡ length out' → more ≡ false → Turning walk out s tight at row walk'' out'' (i + 1)
      go_turn long n = record {
        ready = inv.ready;
        links = inv.links;
        same = same_trans inv.same e.same;
        barred = step_barred;
        long = long ∙ inv.long;
        right = rw n at step_right;
      }

    pub go_end : length row ≤ i → GoneThrough walk walk' out out' s tight at false
    unfolding flat_map emits
    go_end h = record { same = inv.same; barred = inv.barred; right = rw (drop_of_length-le row h, onward_none) at inv.right }
