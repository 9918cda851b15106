-- The distance table. Definitions only.
-- "The distance table holds one cell for each of 1,024 persons, all set to unknown at the start."
use Rattle.std.specs.Prelude.{◌≡◌, Bool, true, false, ◌&&◌, cond, List, [], ◌∷◌, ℕ, ◌+◌, ◌<◌, length, get_or, eqb}
use Rattle.ways.specs.Fewest.{fewest}
use Rattle.compact.specs.Compact.{persons, graph_of}

-- each cell is the fewest hops of its person: "at most k, else k+1"
pub record Table (starts targets : List ℕ) (to k : ℕ) (cells : List ℕ) : Type 0 where
  pub size : length cells ≡ persons
  pub cell : (p : ℕ) → p < persons → get_or cells p 0 ≡ fewest (graph_of starts targets) to k p

-- whether anybody of a row has a cell that holds h
unfoldable pub anybody : List ℕ → ℕ → List ℕ → Bool
anybody cells h [] = false
anybody cells h (v ∷ row) = cond (eqb (get_or cells v 0) h) true (anybody cells h row)

-- what a round leaves in a person's cell: whoever is unknown, which is k+1, and has a link to somebody of h hops has one more
abbrev pub stepped : List ℕ → List ℕ → List ℕ → ℕ → ℕ → ℕ → ℕ
stepped starts targets cells k h p =
    cond (eqb (get_or cells p 0) (k + 1) && anybody cells h (graph_of starts targets p)) (h + 1) (get_or cells p 0)

-- one round, and whether it added anybody
pub record Stepped (starts targets before : List ℕ) (k h : ℕ) (added : Bool) (after : List ℕ) : Type 0 where
  pub size : length after ≡ persons
  pub cell : (p : ℕ) → p < persons → get_or after p 0 ≡ stepped starts targets before k h p
  pub quiet : added ≡ false → after ≡ before
