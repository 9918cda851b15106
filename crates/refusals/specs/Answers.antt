-- What an operation that lists answers. Definitions only.
use Rattle.std.specs.Prelude.{Bool, List, ℕ, leb, Result, Ok, Err}
use Rattle.ways.specs.Records.{written}
use Rattle.ways.specs.Sizes.{record_size}
use Rattle.refusals.specs.Faults.{Fault, sound, fault, unless, lent}
use Rattle.refusals.specs.Reasons.{number_of}
use Rattle.refusals.specs.declared.Listed.{Listed}
use Rattle.refusals.specs.declared.Refusal.{Refusal}

-- "The answer is one of two cases, listed or refused": how many and whether the listing has ended, or number and place
pub data Answer : Type 0 where
  listed : ℕ → Bool → Answer
  refused : ℕ → ℕ → Answer

-- the code's answer, which is the library's `Result`
abbrev pub Told : Type 0
Told = Result Listed Refusal

-- what it says, in these words
abbrev pub answer_said : Told → Answer
answer_said (Ok told) = listed told.count told.ended
answer_said (Err refusal) = refused (number_of refusal.reason) refusal.place

-- the answer where this is the first fault
abbrev pub answer_for : Fault → ℕ → Bool → Answer
answer_for sound count ended = listed count ended
answer_for (fault number place) count ended = refused number place

-- the output where this is the first fault: the records of these chains "from cell 0"; "Other output cells are unchanged."
abbrev pub cells_for : Fault → List (List ℕ) → List ℕ → List ℕ
cells_for first chains out = lent first (written record_size chains out) out

-- 16: output under ten cells; what is looked at afterwards decides else
abbrev pub room_fault : ℕ → Fault → Fault
room_fault cells after = unless (leb record_size cells) 16 0 after
