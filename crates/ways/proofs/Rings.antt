-- `rings` holds every ring and nothing else, in dictionary order, and no other list does; it is what the search lists where From is To.
use mathlib.Core.Path.{◌≡◌, refl, sym, subst}
use mathlib.Core.Logic.{◌↔◌}
use mathlib.Core.Bool.{true}
use mathlib.Core.List.Memᴰ
use mathlib.Core.List.{List, [], ◌∷◌, ◌++◌, drop_last}
use Prim.Native.Nat.{ℕ, ◌+◌, ◌≤◌, ◌<◌}
use native.Mathlib.Omega.{arith}
use borrow.Author.Tests.{leb-true, le-leb}
use Rattle.ways.specs.Graph.{Graph, ◌∈◌, keep}
use Rattle.ways.specs.Chain.{Distinct, hops}
use Rattle.ways.specs.Order.{Before, Rising}
use Rattle.ways.specs.Listing.{listing}
use Rattle.ways.specs.Records.{chain_of, Fits, Shaped, is_record_in}
use Rattle.ways.specs.Ring.{others, Ring, two_hops, rings}
use Rattle.ways.proofs.Members.{keep_from, keep_in, keep_all, nobody}
use Rattle.ways.proofs.Cut.{last_behind, distinct_left, distinct_apart, distinct_append}
use Rattle.ways.proofs.Listed.{last_cons, Listable, listed, listable_no_beginning}
use Rattle.ways.proofs.Rising.{one_list, rising_keep}
use Rattle.ways.proofs.Ordered.{before_asym, ordered, rising_once}
use Rattle.ways.proofs.Records.{listing_fits, is_record_in_just}

module _ (g : Graph) (p k : ℕ) where
  -- a ring comes back to p, and what does so after more than one hop is a ring
  pub ring_listable : (c : List ℕ) → Ring g p k c → Listable g p p k c
  ring_listable [] h = absurd h.first
  ring_listable (x ∷ []) h = absurd (omega arith)
  ring_listable (x ∷ y ∷ w) h =
      record { first = h.first; last = h.last; linked = h.linked; once = subst Distinct (sym (last_behind p (y ∷ w) h.last)) once; apart = λ n. absurd (n refl); few = h.few }
    where
      once : Distinct (others (x ∷ y ∷ w) ++ (p ∷ []))
      once = distinct_append (others (x ∷ y ∷ w)) (p ∷ []) h.once (Memᴰ.not-nil, tt) (λ z i j. h.apart (Memᴰ.cast (sym (Memᴰ.eq_of_singleton j)) i))

  pub listable_ring : (c : List ℕ) → Listable g p p k c → 2 ≤ hops c → Ring g p k c
  listable_ring [] h two = absurd h.first
  listable_ring (x ∷ w) h two =
      record { first = h.first; last = last_cons p x w h.last; linked = h.linked; apart = λ m. distinct_apart (p ∷ []) m once (Memᴰ.head refl); once = distinct_left (drop_last w) (p ∷ []) once; some = two; few = h.few }
    where
      once : Distinct (drop_last w ++ (p ∷ []))
      once = subst Distinct (last_behind p w h.last) h.once

  -- the rings are among what comes back to p
  pub rings-within : {c : List ℕ} → c ∈ rings g p k → c ∈ listing g p p k
  unfolding rings
  rings-within m = (keep_from two_hops (listing g p p k) m).0

  -- exact: in the list if and only if a ring
  pub rings_exact : (c : List ℕ) → c ∈ rings g p k ↔ Ring g p k c
  unfolding rings
  rings_exact c = (to, from)
    where
      to : c ∈ keep two_hops (listing g p p k) → Ring g p k c
      to m = let r = keep_from two_hops (listing g p p k) m in listable_ring c ((listed g p p k c).0 r.0) (leb-true _ (hops c) r.1)

      from : Ring g p k c → c ∈ keep two_hops (listing g p p k)
      from h = keep_in two_hops ((listed g p p k c).1 (ring_listable c h)) (le-leb 2 (hops c) h.some)

  -- a ring has a record
  pub rings_fits : (size : ℕ) → k + 2 ≤ size → (c : List ℕ) → c ∈ rings g p k → Fits size c
  rings_fits size h c m = listing_fits g p p k size h c (rings-within m)

  -- a bookmark is the record of a ring, or it is not
  pub is_record_in_ring : (size : ℕ) → k + 2 ≤ size → (cells : List ℕ) → (is_record_in size (rings g p k) cells ≡ true) ↔ (Shaped size cells × Ring g p k (chain_of cells))
  is_record_in_ring size h = is_record_in_just (Ring g p k) size (rings g p k) (rings_fits size h) rings_exact

  -- no ring is a beginning of another
  pub ring_no_beginning : (c d : List ℕ) → Ring g p k c → Ring g p k (c ++ d) → d ≡ []
  ring_no_beginning c d h i = listable_no_beginning g p p k c d (ring_listable c h) (ring_listable (c ++ d) i)

  -- where nobody has a link to themselves, as in every file that passes, nothing comes back after one hop: the rings are all that comes back
  pub rings_closed : ¬ (p ∈ g p) → rings g p k ≡ listing g p p k
  unfolding rings
  rings_closed n = keep_all two_hops (listing g p p k) (λ c m. le-leb 2 (hops c) (two c ((listed g p p k c).0 m)))
    where
      two : (c : List ℕ) → Listable g p p k c → 2 ≤ hops c
      two [] h = absurd h.first
      two (x ∷ []) h = absurd h.last
      two (x ∷ y ∷ []) h = absurd (n (subst (λ z. p ∈ g z) h.first (Memᴰ.cast (sym h.last) h.linked.0)))
      two (x ∷ y ∷ z ∷ w) h = omega arith

  module _ (rows : (q : ℕ) → Rising ◌<◌ (g q)) where
    -- ordered; each once; and the only such list
    pub rings_ordered : Rising Before (rings g p k)
    unfolding rings
    rings_ordered = rising_keep Before two_hops (listing g p p k) (ordered g rows p p k)

    pub rings_once : Distinct (rings g p k)
    rings_once = rising_once (rings g p k) rings_ordered

    pub rings_determined : (L : List (List ℕ)) → Rising Before L → ((c : List ℕ) → c ∈ L ↔ Ring g p k c) → L ≡ rings g p k
    rings_determined L r h = one_list Before (λ a b. before_asym) (Ring g p k) L (rings g p k) r rings_ordered h rings_exact

-- with one hop there is no ring
pub rings_one_hop : (g : Graph) (p : ℕ) → rings g p 1 ≡ []
rings_one_hop g p = nobody (rings g p 1) (λ c m. let h = (rings_exact g p 1 c).0 m in omega (arith, h.some, h.few))
