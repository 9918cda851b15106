-- How many ways and chains there can be, where each person leads to at most so many.
use mathlib.Core.Path.{refl}
use mathlib.Core.Bool.{Bool, true, false, cond}
use mathlib.Core.List.Memᴰ
use mathlib.Core.List.{List, [], ◌∷◌, map, flat_map}
use Prim.Native.Nat.{ℕ, zero, suc, ◌+◌, ◌*◌, ◌^◌, ◌≤◌, ◌<◌}
use native.Mathlib.Omega.{arith}
use native.Mathlib.Nat.{pow-suc, one-le-pow, mul-le-mul_right, suc-mul, mul_comm}
use lib.Dec.{eqb}
use lib.ListN.{length, length-append, length-map}
use Rattle.ways.specs.Graph.{Graph, ◌∈◌, among}
use Rattle.ways.specs.Order.{Rising}
use Rattle.ways.specs.Listing.{by, ways, listing}

-- a list that rises strictly and stays below n is no longer than n
pub rising_few : (n low : ℕ) (l : List ℕ) → Rising ◌<◌ l → ((y : ℕ) → y ∈ l → (low ≤ y) × (y < n)) → low ≤ n → length l + low ≤ n
rising_few n low [] r lie h = omega arith
rising_few n low (x ∷ l) r lie h =
    let first = lie x (Memᴰ.head refl) in
    let rest = rising_few n (suc x) l r.1 (λ y m. (r.0 y m, (lie y (Memᴰ.tail m)).1)) first.1 in
    omega arith

-- each person leads to at most so many: then so do k hops
module _ (g : Graph) (n : ℕ) (some : 0 < n) (few : (p : ℕ) → length (g p) ≤ n) where
  flat_map_many : {A : Type 0} (f : ℕ → List A) (b : ℕ) (l : List ℕ) → ((v : ℕ) → length (f v) ≤ b) → length (flat_map f l) ≤ length l * b
  unfolding flat_map
  flat_map_many f b [] h = omega arith
  flat_map_many f b (v ∷ l) h = omega (arith, length-append (f v) (flat_map f l), h v, flat_map_many f b l h, suc-mul (length l) b)

  ways_many : (t k : ℕ) (seen : List ℕ) (p : ℕ) → length (ways g t k seen p) ≤ n ^ k
  unfolding ways by
  ways_many t zero seen p = omega arith
  ways_many t (suc k) seen p =
      let each : (v : ℕ) → length (by t seen (ways g t k) v) ≤ n ^ k = λ v. go v (eqb v t) (among v seen) (ways_many t k (v ∷ seen) v) in
      omega (arith, flat_map_many (by t seen (ways g t k)) (n ^ k) (g p) each, mul-le-mul_right (n ^ k) (few p), pow-suc n k, mul_comm n (n ^ k))
    where
      go : (v : ℕ) (a b : Bool) → length (ways g t k (v ∷ seen) v) ≤ n ^ k → length (cond a ((v ∷ []) ∷ []) (cond b [] (map (◌∷◌ v) (ways g t k (v ∷ seen) v)))) ≤ n ^ k
      go v true b h = one-le-pow k n some
      go v false true h = omega arith
      go v false false h = omega (arith, length-map (ways g t k (v ∷ seen) v) (◌∷◌ v))

  pub listing_many : (s t k : ℕ) → length (listing g s t k) ≤ n ^ k
  unfolding listing
  listing_many s t k = omega (arith, length-map (ways g t k (s ∷ []) s) (◌∷◌ s), ways_many t k (s ∷ []) s)
