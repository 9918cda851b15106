-- The listing by hops: the chains of the listing, each once, shorter first, then in dictionary order; and no other list is so.
use mathlib.Core.Path.{◌≡◌, refl, sym, ap, subst, ◌∙◌}
use mathlib.Core.Logic.{◌≢◌, ◌↔◌, ◌⊎◌, inl, inr}
use mathlib.Core.List.Memᴰ
use mathlib.Core.List.{List, [], ◌∷◌, ◌++◌, map}
use Prim.Native.Nat.{ℕ, zero, suc, ◌≤◌, ◌<◌}
use native.Mathlib.Omega.{arith}
use native.Mathlib.Nat.{le_refl}
use native.Mathlib.Decide.{dec_le}
use lib.Dec.{eqb}
use borrow.Author.Tests.{eqb-true, eq-eqb}
use Rattle.ways.specs.Graph.{Graph, ◌∈◌}
use Rattle.ways.specs.Chain.{Distinct, hops, Chain}
use Rattle.ways.specs.Order.{Before, Rising}
use Rattle.ways.specs.Listing.{ways, listing}
use Rattle.ways.specs.ByHops.{Sooner, shorter, level, shorter_first, chains_of, by_hops}
use Rattle.ways.proofs.Members.{keep_from, keep_in}
use Rattle.ways.proofs.Way.{Way, way_in, way_from}
use Rattle.ways.proofs.Listed.{exact}
use Rattle.ways.proofs.Rising.{rising_append, rising_distinct, one_list, rising_keep, rising_within}
use Rattle.ways.proofs.Ordered.{before_asym, ordered}
use Rattle.ways.proofs.Barrier.{way_cut}
use Rattle.ways.proofs.Records.{listing_few}

pub sooner_asym : {a b : List ℕ} → Sooner a b → ¬ Sooner b a
sooner_asym (shorter l) (shorter m) = omega arith
sooner_asym (shorter l) (level e r) = omega arith
sooner_asym (level e r) (shorter l) = omega arith
sooner_asym (level e r) (level f q) = before_asym r q

-- lists of 0, 1, .. hops, one after the other
module _ (f : ℕ → List (List ℕ)) where
  pub shorter_first_from : (k : ℕ) {c : List ℕ} → c ∈ shorter_first f k → (L : ℕ) × (L ≤ k) × (c ∈ f L)
  unfolding shorter_first
  shorter_first_from zero m = (0, le_refl 0, m)
  shorter_first_from (suc k) {c} m = step (λ i. shorter_first_from k i) (Memᴰ.append_cases (shorter_first f k) m)
    where
      step : (c ∈ shorter_first f k → (L : ℕ) × (L ≤ k) × (c ∈ f L)) → (c ∈ shorter_first f k) ⊎ (c ∈ f (suc k)) → (L : ℕ) × (L ≤ suc k) × (c ∈ f L)
      step on (inl i) = let r = on i in (r.0, omega (arith, r.1), r.2)
      step on (inr i) = (suc k, le_refl (suc k), i)

  pub shorter_first_in : (k L : ℕ) {c : List ℕ} → L ≤ k → c ∈ f L → c ∈ shorter_first f k
  unfolding shorter_first
  shorter_first_in zero L {c} l m = subst (λ i. c ∈ f i) (let e : L ≡ 0 = omega arith in e) m
  shorter_first_in (suc k) L {c} l m = go (dec_le L k) (λ i. shorter_first_in k L i m)
    where
      go : Dec (L ≤ k) → (L ≤ k → c ∈ shorter_first f k) → c ∈ shorter_first f k ++ f (suc k)
      go (yes i) on = Memᴰ.append_left (f (suc k)) (on i)
      go (no n) on = Memᴰ.append_right (shorter_first f k) (subst (λ i. c ∈ f i) (let e : L ≡ suc k = omega arith in e) m)

  pub shorter_first_rising : ((L : ℕ) → Rising Before (f L)) → ((L : ℕ) (c : List ℕ) → c ∈ f L → hops c ≡ L) → (k : ℕ) → Rising Sooner (shorter_first f k)
  unfolding shorter_first
  shorter_first_rising r e zero = rising_within Before Sooner (f 0) (r 0) (λ a b i j h. level (e 0 a i ∙ sym (e 0 b j)) h)
  shorter_first_rising r e (suc k) =
      rising_append Sooner (shorter_first f k) (f (suc k)) (shorter_first_rising r e k)
      (rising_within Before Sooner (f (suc k)) (r (suc k)) (λ a b i j h. level (e (suc k) a i ∙ sym (e (suc k) b j)) h))
      (λ a b i j. step a b (shorter_first_from k i) (e (suc k) b j))
    where
      step : (a b : List ℕ) → (L : ℕ) × (L ≤ k) × (a ∈ f L) → hops b ≡ suc k → Sooner a b
      step a b q h = shorter {a = a} {b = b} (omega (arith, q.1, e q.0 a q.2))

-- a chain stands in the listing of every bound that it keeps
pub listing-hops : (g : Graph) (s t k j : ℕ) (c : List ℕ) → hops c ≤ j → c ∈ listing g s t k → c ∈ listing g s t j
unfolding listing
listing-hops g s t k j c l m = let q = Memᴰ.of_map (◌∷◌ s) (ways g t k (s ∷ []) s) m in step q.0 q.2 (way_from g t k s (s ∷ []) q.1)
  where
    step : (w : List ℕ) → s ∷ w ≡ c → Way g t k (s ∷ []) s w → c ∈ map (◌∷◌ s) (ways g t j (s ∷ []) s)
    step w e r = Memᴰ.cast (sym e) (Memᴰ.map (◌∷◌ s) (way_in (way_cut r (omega (arith, ap hops e)))))

module _ (g : Graph) (s t : ℕ) where
  pub chains_of_from : (L : ℕ) {c : List ℕ} → c ∈ chains_of g s t L → (c ∈ listing g s t L) × (hops c ≡ L)
  unfolding chains_of
  chains_of_from L {c} m = let r = keep_from (λ c. eqb (hops c) L) (listing g s t L) m in (r.0, eqb-true (hops c) L r.1)

  pub chains_of_in : (L : ℕ) {c : List ℕ} → c ∈ listing g s t L → hops c ≡ L → c ∈ chains_of g s t L
  unfolding chains_of
  chains_of_in L {c} m e = keep_in (λ c. eqb (hops c) L) m (eq-eqb (hops c) L e)

  -- the same members as the listing
  pub by_hops_iff : (k : ℕ) (c : List ℕ) → c ∈ by_hops g s t k ↔ c ∈ listing g s t k
  by_hops_iff k c = (λ m. to (shorter_first_from (chains_of g s t) k m), λ m. from (listing_few g s t k c m) m)
    where
      to : (L : ℕ) × (L ≤ k) × (c ∈ chains_of g s t L) → c ∈ listing g s t k
      to q = let r = chains_of_from q.0 q.2 in listing-hops g s t q.0 k c (omega (arith, r.1, q.1)) r.0

      from : hops c ≤ k → c ∈ listing g s t k → c ∈ by_hops g s t k
      from l m = shorter_first_in (chains_of g s t) k (hops c) l (chains_of_in (hops c) (listing-hops g s t k (hops c) c (le_refl (hops c)) m) refl)

  -- exact
  pub by_hops_exact : (k : ℕ) → s ≢ t → (c : List ℕ) → c ∈ by_hops g s t k ↔ Chain g s t k c
  by_hops_exact k ne c = (λ m. (exact g s t k ne c).0 ((by_hops_iff k c).0 m), λ h. (by_hops_iff k c).1 ((exact g s t k ne c).1 h))

  module _ (rows : (p : ℕ) → Rising ◌<◌ (g p)) where
    pub chains_of_rising : (L : ℕ) → Rising Before (chains_of g s t L)
    unfolding chains_of
    chains_of_rising L = rising_keep Before (λ c. eqb (hops c) L) (listing g s t L) (ordered g rows s t L)

    -- ordered; each once; and the only such list
    pub by_hops_ordered : (k : ℕ) → Rising Sooner (by_hops g s t k)
    by_hops_ordered k = shorter_first_rising (chains_of g s t) chains_of_rising (λ L c m. (chains_of_from L m).1) k

    pub by_hops_once : (k : ℕ) → Distinct (by_hops g s t k)
    by_hops_once k = rising_distinct Sooner (λ a b. sooner_asym) (by_hops g s t k) (by_hops_ordered k)

    pub by_hops_determined : (k : ℕ) → s ≢ t → (M : List (List ℕ)) → Rising Sooner M → ((c : List ℕ) → c ∈ M ↔ Chain g s t k c) → M ≡ by_hops g s t k
    by_hops_determined k ne M r h = one_list Sooner (λ a b. sooner_asym) (Chain g s t k) M (by_hops g s t k) r (by_hops_ordered k) h (by_hops_exact k ne)
