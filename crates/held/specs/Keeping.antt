-- What a call leaves to be stored in a held listing. Definitions only.
use Rattle.std.specs.Prelude.{List, Option, None, Some, ℕ, zero, suc, ◌*◌, ◌≤◌, length}
use Rattle.ways.specs.Sizes.{record_size}
use Rattle.listing.specs.EndToEnd.{last_record}

-- so many records stand in the cells
abbrev pub RecordsStand : ℕ → List ℕ → Type 0
RecordsStand count cells = count * record_size ≤ length cells

-- the last record where so many were written, and none where none was
abbrev pub record_behind : ℕ → List ℕ → Option (List ℕ)
record_behind zero cells = None
record_behind (suc count) cells = Some (last_record (suc count) cells)
