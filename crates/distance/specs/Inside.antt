-- What the inner functions ask of their callers, and tell each other. Definitions only.
use Rattle.std.specs.Prelude.{◌≡◌, [], ℕ, ◌≤◌, ◌<◌}
use Rattle.ways.specs.Sizes.{most_hops}
use Rattle.ways.specs.Graph.{Graph}
use Rattle.compact.specs.Compact.{persons}

-- an end person and a bound on the hops
pub record Readable (to k : ℕ) : Type 0 where
  pub end : to < persons
  pub hops : k ≤ most_hops

-- so many persons, behind whom nobody has a link
pub record NobodyBehind (g : Graph) (people : ℕ) : Type 0 where
  pub most : people ≤ persons
  pub none : (p : ℕ) → people ≤ p → p < persons → g p ≡ []

-- a round of h hops, of fewer than the bound
pub record Rounding (k h : ℕ) : Type 0 where
  pub further : h < k
  pub hops : k ≤ most_hops
