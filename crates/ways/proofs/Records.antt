-- Records: a record tells its chain, has its size, and is known by its shape; records laid end to end tell their list.
use mathlib.Core.Path.{◌≡◌, refl, sym, ap, ap₂, subst, ◌∙◌}
use mathlib.Core.Logic.{◌≢◌, ◌↔◌}
use mathlib.Core.Bool.{Bool, true, false, false≢true, cond}
use mathlib.Core.List.Memᴰ
use mathlib.Core.List.{List, [], ◌∷◌, ◌++◌, append_assoc, cons≢nil}
use Prim.Native.Nat.{ℕ, suc, ◌+◌, ◌-◌, ◌*◌, ◌≤◌, ◌<◌}
use native.Mathlib.Omega.{arith}
use native.Mathlib.Nat.{div-mul-le_self}
use lib.ListN.{length, take, drop, replicate, length-append, length-drop, length-replicate, take-append-drop}
use lib.Seq.{take_at, drop_at, drop-append_seam, length-take-le}
use lib.Dec.{eqb}
use borrow.Author.Tests.{eqb-true, eq-eqb}
use Rattle.ways.specs.Graph.{Graph, ◌∈◌}
use Rattle.ways.specs.Chain.{hops, Chain}
use Rattle.ways.specs.Listing.{ways, listing}
use Rattle.ways.specs.Records.{record_of, chain_of, Fits, Shaped, cells_of, room_of, written, same_cells, is_record_in}
use Rattle.ways.proofs.Way.{Way, ends, goes, way_from}
use Rattle.ways.proofs.Listed.{Listable, listed, exact}

-- ways and chains fit
pub length-hops : (c : List ℕ) → 1 ≤ length c → suc (hops c) ≡ length c
length-hops [] h = absurd (omega arith)
length-hops (p ∷ c) h = refl

pub way_some : {g : Graph} {t k p : ℕ} {seen w : List ℕ} → Way g t k seen p w → 1 ≤ length w
way_some (ends m e) = omega arith
way_some (goes m n o r) = omega arith

pub way_few : {g : Graph} {t k p : ℕ} {seen w : List ℕ} → Way g t k seen p w → length w ≤ k
way_few (ends m e) = omega arith
way_few (goes m n o r) = omega (arith, way_few r)

pub listing_some : (g : Graph) (s t k : ℕ) (c : List ℕ) → c ∈ listing g s t k → 1 ≤ length c
unfolding listing
listing_some g s t k c m = let q = Memᴰ.of_map (◌∷◌ s) (ways g t k (s ∷ []) s) m in omega (arith, ap length q.2)

pub listing_few : (g : Graph) (s t k : ℕ) (c : List ℕ) → c ∈ listing g s t k → hops c ≤ k
unfolding listing
listing_few g s t k c m = let q = Memᴰ.of_map (◌∷◌ s) (ways g t k (s ∷ []) s) m in omega (arith, ap hops q.2, way_few (way_from g t k s (s ∷ []) q.1))

pub listing_fits : (g : Graph) (s t k size : ℕ) → k + 2 ≤ size → (c : List ℕ) → c ∈ listing g s t k → Fits size c
listing_fits g s t k size h c m = let a = listing_some g s t k c m in let b = listing_few g s t k c m in let e = length-hops c a in record { some = a; room = omega arith }

-- one record
pub chain_of-record_of : (size : ℕ) (c : List ℕ) → 1 ≤ length c → chain_of (record_of size c) ≡ c
unfolding chain_of record_of
chain_of-record_of size c h = take_at c (replicate (size - suc (length c)) 0) (suc (hops c)) (sym (length-hops c h))

pub length-record_of : (size : ℕ) (c : List ℕ) → length c < size → length (record_of size c) ≡ size
unfolding record_of
length-record_of size c h = simp (length-append, length-replicate) (omega arith)

-- two chains with equal records are equal; so cells are the record of at most one chain
pub record_of_only : (size : ℕ) (c d : List ℕ) → 1 ≤ length c → 1 ≤ length d → record_of size c ≡ record_of size d → c ≡ d
record_of_only size c d h i e = sym (chain_of-record_of size c h) ∙ ap chain_of e ∙ chain_of-record_of size d i

pub record_one : (size : ℕ) (cells c d : List ℕ) → 1 ≤ length c → 1 ≤ length d → cells ≡ record_of size c → cells ≡ record_of size d → c ≡ d
record_one size cells c d h i e f = record_of_only size c d h i (sym e ∙ f)

-- a record is known by its shape
pub shaped_record_of : (size : ℕ) (c : List ℕ) → Fits size c → Shaped size (record_of size c)
unfolding record_of
shaped_record_of size [] f = absurd (omega arith)
shaped_record_of size (p ∷ c) f =
    record { whole = length-record_of size (p ∷ c) f.room; room = omega arith; zeros = zeros }
  where
    gap : suc (suc (length c)) ≡ length c + 2
    gap = omega arith

    zeros : drop (length c + 2) (record_of size (p ∷ c)) ≡ replicate (size - (length c + 2)) 0
    zeros = rw (← gap) (drop-append_seam (p ∷ c) (replicate (size - suc (suc (length c))) 0))

pub shaped_fits : (size : ℕ) (cells : List ℕ) → Shaped size cells → Fits size (chain_of cells)
unfolding chain_of
shaped_fits size [] s = absurd (omega arith)
shaped_fits size (h ∷ cells) s = let e : length (take (suc h) cells) ≡ suc h = length-take-le (suc h) cells (omega arith) in record { some = omega arith; room = omega arith }

pub record_of-chain_of : (size : ℕ) (cells : List ℕ) → Shaped size cells → record_of size (chain_of cells) ≡ cells
unfolding record_of chain_of
record_of-chain_of size [] s = absurd (omega arith)
record_of-chain_of size (h ∷ cells) s =
    let e : length (take (suc h) cells) ≡ suc h = length-take-le (suc h) cells (omega arith) in
    let i : hops (take (suc h) cells) ≡ h = omega (arith, length-hops (take (suc h) cells) (omega arith)) in
    let two : h + 2 ≡ suc (suc h) = omega arith in
    let z : drop (suc h) cells ≡ replicate (size - suc (suc h)) 0 = rw two at s.zeros in
    ap₂ ◌∷◌ i (rw (e, ← z) (take-append-drop (suc h) cells))

pub shaped_iff : (size : ℕ) (cells : List ℕ) → Shaped size cells ↔ (Fits size (chain_of cells) × (cells ≡ record_of size (chain_of cells)))
shaped_iff size cells = (λ s. (shaped_fits size cells s, sym (record_of-chain_of size cells s)), λ r. rw r.1 (shaped_record_of size (chain_of cells) r.0))

-- records laid end to end
module _ (size : ℕ) where
  pub cells_of_append : (L M : List (List ℕ)) → cells_of size (L ++ M) ≡ cells_of size L ++ cells_of size M
  unfolding cells_of
  cells_of_append [] M = refl
  cells_of_append (c ∷ L) M = rw (cells_of_append L M, append_assoc)

  pub length-cells_of : (L : List (List ℕ)) → ((c : List ℕ) → c ∈ L → Fits size c) → length (cells_of size L) ≡ length L * size
  unfolding cells_of
  length-cells_of [] f = omega arith
  length-cells_of (c ∷ L) f =
      let e : length (record_of size c) ≡ size = length-record_of size c (f c (Memᴰ.head refl)).room in
      rw (length-append, e, length-cells_of L (λ d m. f d (Memᴰ.tail m))) (omega arith)

  pub length-written : (L : List (List ℕ)) (cells : List ℕ) → ((c : List ℕ) → c ∈ L → Fits size c) → length L * size ≤ length cells → length (written size L cells) ≡ length cells
  unfolding written
  length-written L cells f h = rw (length-append, length-drop, length-cells_of L f) (omega arith)

  -- the cells tell the list
  pub cells_of_only : (L M : List (List ℕ)) → ((c : List ℕ) → c ∈ L → Fits size c) → ((c : List ℕ) → c ∈ M → Fits size c) → cells_of size L ≡ cells_of size M → L ≡ M
  unfolding cells_of record_of
  cells_of_only [] [] f h e = refl
  cells_of_only [] (d ∷ M) f h e = absurd (cons≢nil (sym e))
  cells_of_only (c ∷ L) [] f h e = absurd (cons≢nil e)
  cells_of_only (c ∷ L) (d ∷ M) f h e =
      let x = f c (Memᴰ.head refl) in
      let y = h d (Memᴰ.head refl) in
      let lc = length-record_of size c x.room in
      let ld = length-record_of size d y.room in
      let front : record_of size c ≡ record_of size d = sym (take_at (record_of size c) (cells_of size L) size lc) ∙ ap (take size) e ∙ take_at (record_of size d) (cells_of size M) size ld in
      let back : cells_of size L ≡ cells_of size M = sym (drop_at (record_of size c) (cells_of size L) size lc) ∙ ap (drop size) e ∙ drop_at (record_of size d) (cells_of size M) size ld in
      ap₂ ◌∷◌ (record_of_only size c d x.some y.some front) (cells_of_only L M (λ b m. f b (Memᴰ.tail m)) (λ b m. h b (Memᴰ.tail m)) back)

-- the room for records is in the cells
pub room_within : (size cells : ℕ) → room_of size cells * size ≤ cells
room_within size cells = div-mul-le_self cells size

-- the tests
pub same_cells_true : (a b : List ℕ) → same_cells a b ≡ true → a ≡ b
unfolding same_cells
same_cells_true [] [] e = refl
same_cells_true [] (y ∷ b) e = absurd (false≢true e)
same_cells_true (x ∷ a) [] e = absurd (false≢true e)
same_cells_true (x ∷ a) (y ∷ b) e = go (eqb x y) refl e (λ i. same_cells_true a b i)
  where
    go : (t : Bool) → eqb x y ≡ t → cond t (same_cells a b) false ≡ true → (same_cells a b ≡ true → a ≡ b) → x ∷ a ≡ y ∷ b
    go true h i on = ap₂ ◌∷◌ (eqb-true x y h) (on i)
    go false h i on = absurd (false≢true i)

pub same_cells_refl : (a : List ℕ) → same_cells a a ≡ true
unfolding same_cells
same_cells_refl [] = refl
same_cells_refl (x ∷ a) = rw (eq-eqb x x refl) (same_cells_refl a)

pub is_record_in_true : (size : ℕ) (L : List (List ℕ)) (cells : List ℕ) → is_record_in size L cells ≡ true → (c : List ℕ) × (c ∈ L) × (cells ≡ record_of size c)
unfolding is_record_in
is_record_in_true size [] cells e = absurd (false≢true e)
is_record_in_true size (c ∷ L) cells e = go (same_cells cells (record_of size c)) refl e (λ i. is_record_in_true size L cells i)
  where
    Found : List (List ℕ) → Type 0
    Found M = (d : List ℕ) × (d ∈ M) × (cells ≡ record_of size d)

    go : (t : Bool) → same_cells cells (record_of size c) ≡ t → cond t true (is_record_in size L cells) ≡ true → (is_record_in size L cells ≡ true → Found L) → Found (c ∷ L)
    go true h i on = (c, Memᴰ.head refl, same_cells_true cells (record_of size c) h)
    go false h i on = let r = on i in (r.0, Memᴰ.tail r.1, r.2)

pub true_is_record_in : (size : ℕ) (cells : List ℕ) {c : List ℕ} {L : List (List ℕ)} → c ∈ L → cells ≡ record_of size c → is_record_in size L cells ≡ true
unfolding is_record_in
true_is_record_in size cells {c} (Memᴰ.head {x = d} e) h = rw (h, ap (record_of size) e, same_cells_refl (record_of size d))
true_is_record_in size cells (Memᴰ.tail {x = d} {xs = L} m) h = go (same_cells cells (record_of size d)) (true_is_record_in size cells m h)
  where
    go : (t : Bool) → is_record_in size L cells ≡ true → cond t true (is_record_in size L cells) ≡ true
    go true e = refl
    go false e = e

-- the record of a chain of L: in the shape of a record, and its chain stands in L
pub is_record_in_iff : (size : ℕ) (L : List (List ℕ)) (cells : List ℕ) → ((c : List ℕ) → c ∈ L → Fits size c) → (is_record_in size L cells ≡ true) ↔ (Shaped size cells × (chain_of cells ∈ L))
is_record_in_iff size L cells f = (λ e. to (is_record_in_true size L cells e), λ r. true_is_record_in size cells r.1 (sym (record_of-chain_of size cells r.0)))
  where
    to : (c : List ℕ) × (c ∈ L) × (cells ≡ record_of size c) → Shaped size cells × (chain_of cells ∈ L)
    to r =
        let h = f r.0 r.1 in
        (subst (λ d. Shaped size d) (sym r.2) (shaped_record_of size r.0 h), Memᴰ.cast (ap chain_of r.2 ∙ chain_of-record_of size r.0 h.some) r.1)

-- a bookmark is refused by 17's rule only: it is the record of one of those that `Is` says, or it is not
pub is_record_in_just : (Is : List ℕ → Type 0) (size : ℕ) (L : List (List ℕ)) → ((c : List ℕ) → c ∈ L → Fits size c) → ((c : List ℕ) → c ∈ L ↔ Is c) → (cells : List ℕ) → (is_record_in size L cells ≡ true) ↔ (Shaped size cells × Is (chain_of cells))
is_record_in_just Is size L f just cells =
    let r = is_record_in_iff size L cells f in
    let e = just (chain_of cells) in
    ((λ i. let q = r.0 i in (q.0, e.0 q.1)), (λ q. r.1 (q.0, e.1 q.1)))

-- of what stands in the listing, whether From is To or not; and of a chain where they differ
module _ (g : Graph) (s t k size : ℕ) where
  pub is_record_in_listed : k + 2 ≤ size → (cells : List ℕ) → (is_record_in size (listing g s t k) cells ≡ true) ↔ (Shaped size cells × Listable g s t k (chain_of cells))
  is_record_in_listed h = is_record_in_just (Listable g s t k) size (listing g s t k) (listing_fits g s t k size h) (listed g s t k)

  pub is_record_in_chain : s ≢ t → k + 2 ≤ size → (cells : List ℕ) → (is_record_in size (listing g s t k) cells ≡ true) ↔ (Shaped size cells × Chain g s t k (chain_of cells))
  is_record_in_chain ne h = is_record_in_just (Chain g s t k) size (listing g s t k) (listing_fits g s t k size h) (exact g s t k ne)
