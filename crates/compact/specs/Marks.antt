-- Marks: one for each person. Definitions only.
use Rattle.std.specs.Prelude.{◌≡◌, Bool, false, List, ℕ, length, get_or}
use Rattle.ways.specs.Graph.{among}
use Rattle.compact.specs.Compact.{persons}

-- the marks are those of the persons seen
pub record Marked (marks : List Bool) (seen : List ℕ) : Type 0 where
  pub wide : length marks ≡ persons
  pub each : (v : ℕ) → get_or marks v false ≡ among v seen
