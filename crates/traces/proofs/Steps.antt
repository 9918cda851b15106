-- Extending a chain and pairing it with its right halves: one law for each need, named after the place in the code.
use mathlib.Core.Path.{◌≡◌, refl, sym, ap, subst, ◌∙◌}
use mathlib.Core.Bool.{Bool, true, false, cond}
use mathlib.Core.List.Memᴰ
use mathlib.Core.List.{List, [], ◌∷◌, map, flat_map, map-map}
use Prim.Native.Nat.{ℕ, zero, suc, ◌+◌, ◌-◌, ◌≤◌, ◌<◌}
use lib.ListN.{length, get_or, set, drop, length-set}
use lib.Dec.{eqb}
use lib.Seq.{set-set, set-get_or, drop-cons}
use native.Mathlib.Omega.{arith}
use native.Mathlib.Numerals.{add-one, sub-one}
use borrow.Author.Tests.{eq-eqb, ne_eqb}
use Rattle.std.proofs.lemmas.List.{get_or_read, drop_all}
use Rattle.ways.specs.Graph.{Graph, ◌∈◌, keep}
use Rattle.ways.proofs.Members.{keep_append}
use Rattle.compact.specs.Compact.{persons}
use Rattle.compact.proofs.Rows.{row_people}
use Rattle.pages.specs.Pages.{Page, emit, emits, record_with}
use Rattle.pages.specs.declared.HandedOver.{HandedOver}
use Rattle.traces.specs.Indexed.{place_of, Indexed}
use Rattle.traces.specs.HandingOver.{page, writes, Handed, Ended}
use Rattle.compact.specs.Links.{links_of}
use Rattle.traces.specs.Traces.{clear, rest_of, rests_of, indexed_at, rights_in, handed, Ready, Arrived, following, taking, Extended}
use Rattle.traces.specs.declared.trace.Trace.{Trace}
use Rattle.traces.specs.declared.tracing.Tracing.{Tracing}
use Rattle.traces.proofs.Turns.{Over, turn_on, turn_over}

-- ---- `apart`: whoever is read has a mark

pub each_person : (group : List ℕ) (n : ℕ) → ((i : ℕ) → i < length group → get_or group i 0 < n) → (v i : ℕ) → i < length group → v ≡ get_or group i v → v < n
each_person group n h v i l e = let read : v ≡ get_or group i 0 = get_or_read group i v l e 0 in rw (← read) at (h i l)

-- who is read stands there
pub get_or_in : (l : List ℕ) (i : ℕ) → i < length l → get_or l i 0 ∈ l
get_or_in [] i h = absurd (omega arith)
get_or_in (v ∷ l) zero h = Memᴰ.head refl
get_or_in (v ∷ l) (suc i) h = Memᴰ.tail (get_or_in l i (omega arith))

-- ---- `arrive`: what was handed over, with the right halves still to come, is all

rests_cons : (halves : List ℕ) (rest half end : ℕ) → half < end → rests_of halves rest half (end - half) ≡ rest_of halves rest half ∷ rests_of halves rest (half + 1) (end - (half + 1))
unfolding rests_of
rests_cons halves rest half end lt =
    let n : end - half ≡ suc (end - (half + 1)) = omega arith in
    rw (n, add-one half)

pub record Pairing (w : Tracing) (marks : List Bool) (out₀ : List ℕ) (t : Trace) (end : ℕ) (before : HandedOver) (out : List ℕ) (half : ℕ) (got : HandedOver) : Type 0 where
  pub ready : Ready w marks out₀ t before
  pub indexed : Indexed w.halves.now w.index.now w.rest
  pub ends : end ≡ get_or w.index.now (place_of w.rest t.last + 1) 0
  pub long : length out ≡ length out₀
  pub right : handed w t (page got out) (keep (clear marks) (rests_of w.halves.now w.rest half (end - half))) ≡ handed w t (page before out₀) (keep (clear marks) (indexed_at w.halves.now w.index.now w.rest t.last))

module _ {w : Tracing} {marks : List Bool} {out : List ℕ} {t : Trace} {before : HandedOver} where
  module _ (k : Ready w marks out t before) where
    -- no hop is left for a right half
    pub arrive_ended : {out' : List ℕ} {after : HandedOver} → w.rest ≡ 0 → Ended w out out' t before after → Arrived w marks out out' t before after
    unfolding keep emits
    arrive_ended {out'} {after} e d = record { right = rw (eq-eqb w.rest 0 e) (go (eqb t.last w.to) d.right) }
      where
        go : (b : Bool) → page after out' ≡ cond b (emit (writes w.purpose) w.room (page before out) (record_with t.chain t.len [])) (page before out) → page after out' ≡ handed w t (page before out) (keep (clear marks) (cond b ([] ∷ []) []))
        go true r = r
        go false r = r

  module _ {end : ℕ} {out' : List ℕ} {half : ℕ} {got : HandedOver} (inv : Pairing w marks out t end before out' half got) where
    -- what the right half of this number hands over
    paired : {out'' : List ℕ} {got' : HandedOver} → half < end → length out'' ≡ length out' → page got' out'' ≡ handed w t (page got out') (keep (clear marks) (rest_of w.halves.now w.rest half ∷ [])) → Pairing w marks out t end before out'' (half + 1) got'
    paired lt long p = record {
      ready = inv.ready;
      indexed = inv.indexed;
      ends = inv.ends;
      long = long ∙ inv.long;
      right = turn_on (record_with t.chain t.len) (writes w.purpose) w.room (page got out') (keep (clear marks) (rest_of w.halves.now w.rest half ∷ [])) (keep (clear marks) (rests_of w.halves.now w.rest (half + 1) (end - (half + 1)))) (rw (← keep_append) (rw (rests_cons w.halves.now w.rest half end lt) at inv.right)) p;
    }

    pub pair_joined : {out'' : List ℕ} {got' : HandedOver} → half < end → true ≡ clear marks (rest_of w.halves.now w.rest half) → Handed w out' out'' t (rest_of w.halves.now w.rest half) got got' → length out'' ≡ length out' → Pairing w marks out t end before out'' (half + 1) got'
    unfolding keep emits
    pair_joined lt e h long = paired lt long (rw (← e) h.right)

    pub pair_shared : half < end → false ≡ clear marks (rest_of w.halves.now w.rest half) → Pairing w marks out t end before out' (half + 1) got
    unfolding keep emits
    pair_shared lt e = paired lt refl (rw (← e))

    pub arrive_end : Over half end (page got out') → Arrived w marks out out' t before got
    unfolding rests_of keep
    arrive_end over = record {
      right = rw (ne_eqb w.rest 0 (λ e. omega (arith, e, inv.indexed.some))) (turn_over (record_with t.chain t.len) (writes w.purpose) w.room (page got out') (keep (clear marks) (rests_of w.halves.now w.rest half (end - half))) inv.right (λ (l : end ≤ half). let n : end - half ≡ 0 = omega arith in rw n) over);
    }

-- ---- `extend`

-- a mark made and taken back
pub unmarked : (marks : List Bool) (v : ℕ) → get_or marks v false ≡ false → set (set marks v true) v false ≡ marks
unmarked marks v h = set-set marks v true false ∙ ap (set marks v) (sym h) ∙ set-get_or marks v false

-- where the recursion stands once one more is in the chain
abbrev pub longer : Trace → ℕ → Trace
longer t v = record { chain = set t.chain (t.len + 1) v; len = t.len + 1; left = t.left - 1; last = v }

-- the ways on from a person, by that person's links
following-links : (g : Graph) (rights : ℕ → List (List ℕ)) (i : ℕ) (marks : List Bool) (p : ℕ) → 1 ≤ i → following g rights i marks p ≡ flat_map (taking g rights (i - 1) marks) (g p)
unfolding following
following-links g rights zero marks p h = absurd (omega arith)
following-links g rights (suc i) marks p h = rw sub-one

-- what one more in the chain hands over
pub taken : (g : Graph) (rights : ℕ → List (List ℕ)) (i : ℕ) (marks : List Bool) (chain : List ℕ) (len v : ℕ) (written : Bool) (room : ℕ) (s : Page) → get_or marks v false ≡ false
    → emits written room s (map (record_with (set chain (len + 1) v) (len + 1)) (following g rights i (set marks v true) v)) ≡ emits written room s (map (record_with chain len) (taking g rights i marks v))
unfolding record_with
taken g rights i marks chain len v written room s free = rw (free, map-map)

-- the ways on by the links still to come, of which v's are one part
abbrev goes : Tracing → List Bool → Trace → ℕ → List (List ℕ)
goes w marks t = taking (links_of w.graph) (rights_in w) (t.left - 1) marks

-- the loop's invariant: what was handed over, with what is still to come, is all
pub record Turning (w : Tracing) (marks₀ : List Bool) (out₀ : List ℕ) (t : Trace) (row : List ℕ) (before : HandedOver) (marks : List Bool) (out : List ℕ) (i : ℕ) (got : HandedOver) : Type 0 where
  pub ready : Ready w marks₀ out₀ t before
  pub some : 1 ≤ t.left
  pub links : row ≡ links_of w.graph t.last
  pub same : marks ≡ marks₀
  pub long : length out ≡ length out₀
  pub right : handed w t (page got out) (flat_map (goes w marks₀ t) (drop i row)) ≡ handed w t (page before out₀) (following (links_of w.graph) (rights_in w) t.left marks₀ t.last)

module _ {w : Tracing} {marks : List Bool} {out : List ℕ} {t : Trace} {before : HandedOver} where
  module _ (k : Ready w marks out t before) where
    -- no hop is left
    pub extend_arrived : {out' : List ℕ} {r : HandedOver} → t.left ≡ 0 → Arrived w marks out out' t before r → Extended w marks marks out out' t before r
    unfolding following
    extend_arrived e a = record { same = refl; right = rw e a.right }

    pub extend_start : {row : List ℕ} → (t.left ≡ 0 → ⊥) → row ≡ links_of w.graph t.last → Turning w marks out t row before marks out 0 before
    extend_start n links =
        let some : 1 ≤ t.left = omega (arith, n) in
        record {
          ready = k;
          some = some;
          links = links;
          same = refl;
          long = refl;
          right = rw (links, following-links (links_of w.graph) (rights_in w) t.left marks t.last some);
        }

  module _ {row : List ℕ} {marks' : List Bool} {out' : List ℕ} {i : ℕ} {got : HandedOver} (inv : Turning w marks out t row before marks' out' i got) (lt : i < length row) where
    pub extend_person : get_or row i 0 < persons
    extend_person = row_people t.last w.graph.compact inv.ready.place (subst (λ l. get_or row i 0 ∈ l) inv.links (get_or_in row i lt))

    pub extend_ready : got.more ≡ false → Ready w (set marks' (get_or row i 0) true) out' (longer t (get_or row i 0)) got
    extend_ready none =
        let k = inv.ready in
        record {
          wide = length-set marks' (get_or row i 0) true ∙ ap length inv.same ∙ k.wide;
          room = omega (arith, k.room, inv.long);
          long = length-set t.chain (t.len + 1) (get_or row i 0) ∙ k.long;
          some = omega arith;
          short = omega (arith, k.short, inv.some);
          place = extend_person;
          none = none;
        }

    -- what is still to come is what goes by this person, and the rest
    come : handed w t (page got out') (flat_map (goes w marks t) (get_or row i 0 ∷ drop (i + 1) row)) ≡ handed w t (page before out) (following (links_of w.graph) (rights_in w) t.left marks t.last)
    come = rw (drop-cons row i 0 lt, ← add-one i) at inv.right

    -- the next person stands in the chain already
    pub extend_skip : get_or marks' (get_or row i 0) false ≡ true → Turning w marks out t row before marks' out' (i + 1) got
    unfolding flat_map
    extend_skip h = record {
      ready = inv.ready;
      some = inv.some;
      links = inv.links;
      same = inv.same;
      long = inv.long;
      right = rw (sym (ap (λ (m : List Bool). get_or m (get_or row i 0) false) inv.same) ∙ h) at come;
    }

    module _ {marks'' : List Bool} {out'' : List ℕ} {got' : HandedOver} (free : get_or marks' (get_or row i 0) false ≡ false)
        (e : Extended w (set marks' (get_or row i 0) true) marks'' out' out'' (longer t (get_or row i 0)) got got') where
      back : set marks'' (get_or row i 0) false ≡ marks
      back = ap (λ (m : List Bool). set m (get_or row i 0) false) e.same ∙ unmarked marks' (get_or row i 0) free ∙ inv.same

      one : page got' out'' ≡ handed w t (page got out') (goes w marks t (get_or row i 0))
      one = e.right ∙ rw inv.same (taken (links_of w.graph) (rights_in w) (t.left - 1) marks t.chain t.len (get_or row i 0) (writes w.purpose) w.room (page got out') (sym (ap (λ (m : List Bool). get_or m (get_or row i 0) false) inv.same) ∙ free))

      pub extend_turn : length out'' ≡ length out' → Turning w marks out t row before (set marks'' (get_or row i 0) false) out'' (i + 1) got'
      unfolding flat_map
      extend_turn long = record {
        ready = inv.ready;
        some = inv.some;
        links = inv.links;
        same = back;
        long = long ∙ inv.long;
        right = turn_on (record_with t.chain t.len) (writes w.purpose) w.room (page got out') (goes w marks t (get_or row i 0)) (flat_map (goes w marks t) (drop (i + 1) row)) come one;
      }

  pub extend_end : {row : List ℕ} {marks' : List Bool} {out' : List ℕ} {i : ℕ} {got : HandedOver} → Turning w marks out t row before marks' out' i got → Over i (length row) (page got out') → Extended w marks marks' out out' t before got
  unfolding flat_map
  extend_end {row} {out' = out'} {i} {got} inv over = record {
    same = inv.same;
    right = turn_over (record_with t.chain t.len) (writes w.purpose) w.room (page got out') (flat_map (goes w marks t) (drop i row)) inv.right (λ l. rw (drop_all i row l)) over;
  }
