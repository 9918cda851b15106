-- What the inner functions ask of their callers. Definitions only.
use Rattle.std.specs.Prelude.{◌≡◌, List, ℕ, ◌+◌}
use Rattle.refusals.specs.Faults.{sound, first_among}
use Rattle.format.specs.Format.{person_count}
use Rattle.checking.specs.Checked.{row_fault}

-- the file passes 6 too
abbrev pub Rowed : List ℕ → Type 0
Rowed file = first_among (row_fault file) 0 (person_count file + 1) ≡ sound
