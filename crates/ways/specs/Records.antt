-- A chain in cells. The record size is ten cells today; every definition here takes any size. Definitions only.
-- "A chain record has ten 32-bit cells: the hops L, then L+1 persons, then zeros."
use Rattle.std.specs.Prelude.{◌≡◌, Bool, true, false, cond, List, [], ◌∷◌, ◌++◌, ℕ, suc, ◌+◌, ◌-◌, ◌*◌, ◌/◌, ◌≤◌, ◌<◌, length, get_or, take, drop, replicate, eqb}
use Rattle.ways.specs.Chain.{hops}

-- the record of a chain
unfoldable pub record_of : ℕ → List ℕ → List ℕ
record_of size c = hops c ∷ (c ++ replicate (size - suc (length c)) 0)

-- the way back: behind the hops stand one person more than hops
unfoldable pub chain_of : List ℕ → List ℕ
chain_of [] = []
chain_of (h ∷ cells) = take (suc h) cells

-- a chain that has a record of this size: somebody stands in it, and behind the hops there are cells enough
pub record Fits (size : ℕ) (c : List ℕ) : Type 0 where
  pub some : 1 ≤ length c
  pub room : length c < size

-- cells in the shape of a record: exactly the size, the hops, the persons, zeros behind them
pub record Shaped (size : ℕ) (cells : List ℕ) : Type 0 where
  pub whole : length cells ≡ size
  pub room : get_or cells 0 0 + 2 ≤ size
  pub zeros : drop (get_or cells 0 0 + 2) cells ≡ replicate (size - (get_or cells 0 0 + 2)) 0

-- records laid end to end
unfoldable pub cells_of : ℕ → List (List ℕ) → List ℕ
cells_of size [] = []
cells_of size (c ∷ L) = record_of size c ++ cells_of size L

-- "The output has room for r = its length divided by ten, rounded down."
abbrev pub room_of : ℕ → ℕ → ℕ
room_of size cells = cells / size

-- "from cell 0"; "Other output cells are unchanged.": the cells after the records of L were written to them
unfoldable pub written : ℕ → List (List ℕ) → List ℕ → List ℕ
written size L cells = cells_of size L ++ drop (length L * size) cells

-- whether two lists have the same cells
unfoldable pub same_cells : List ℕ → List ℕ → Bool
same_cells [] [] = true
same_cells [] (y ∷ b) = false
same_cells (x ∷ a) [] = false
same_cells (x ∷ a) (y ∷ b) = cond (eqb x y) (same_cells a b) false

-- refusal 17, turned round: whether the cells are the record of a chain of L
unfoldable pub is_record_in : ℕ → List (List ℕ) → List ℕ → Bool
is_record_in size [] cells = false
is_record_in size (c ∷ L) cells = cond (same_cells cells (record_of size c)) true (is_record_in size L cells)
