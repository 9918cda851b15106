-- The listing by hops: "shorter first, then dictionary order". Definitions only.
use Rattle.std.specs.Prelude.{◌≡◌, List, ◌++◌, ℕ, zero, suc, ◌<◌, eqb}
use Rattle.ways.specs.Graph.{Graph, keep}
use Rattle.ways.specs.Chain.{hops}
use Rattle.ways.specs.Order.{Before}
use Rattle.ways.specs.Listing.{listing}

-- a stands before b by hops
pub data Sooner : List ℕ → List ℕ → Type 0 where
  shorter : {a b : List ℕ} → hops a < hops b → Sooner a b
  level : {a b : List ℕ} → hops a ≡ hops b → Before a b → Sooner a b

-- the lists of 0, 1, .. up to k hops, one after the other
unfoldable pub shorter_first : (ℕ → List (List ℕ)) → ℕ → List (List ℕ)
shorter_first f zero = f zero
shorter_first f (suc k) = shorter_first f k ++ f (suc k)

-- the chains of exactly L hops, in dictionary order
unfoldable pub chains_of : Graph → ℕ → ℕ → ℕ → List (List ℕ)
chains_of g s t L = keep (λ c. eqb (hops c) L) (listing g s t L)

-- the chains of at most k hops, shorter first, then in dictionary order
abbrev pub by_hops : Graph → ℕ → ℕ → ℕ → List (List ℕ)
by_hops g s t = shorter_first (chains_of g s t)
