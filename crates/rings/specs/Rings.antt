-- The rings that a file and a question list, and the promise of a portion of them: the second instance of a listing (listing, specs/).
-- "Portions, bookmarks and order are those of the chain listing". Definitions only.
use Rattle.refusals.specs.Answers.{Told}
use Rattle.std.specs.Prelude.{List, Bool, ℕ}
use Rattle.refusals.specs.Faults.{Fault}
use Rattle.ways.specs.Ring.{rings}
use Rattle.question.specs.declared.Question.{Question}
use Rattle.question.specs.Asked.{rings_asked_fault, rings_asked_numbers}
use Rattle.question.specs.Admission.{next}
use Rattle.listing.specs.Portions.{Start, refusal_of, portion_numbers_after, portion_of, ended_of}
use Rattle.listing.specs.Answers.{PortionOf}

-- "For one person, list every ring": over the admitted links
abbrev pub rings_for : List ℕ → Question → List (List ℕ)
rings_for file q = rings (next file q) q.from q.hops

-- the first refusal: 1 to 9, 10, 21, 12 to 15, 20, 16 (output under ten cells), 17
abbrev pub rings_fault : List ℕ → Question → Start → List ℕ → Fault
rings_fault file q start out = refusal_of (rings_asked_fault file q) (rings_for file q) start out

abbrev pub rings_numbers : List ℕ
rings_numbers = portion_numbers_after rings_asked_numbers

-- the first rings after the bookmark, as many as there is room for, and whether none follows
abbrev pub rings_portion : List ℕ → Question → Start → List ℕ → List (List ℕ)
rings_portion file q start out = portion_of (rings_for file q) start out

abbrev pub rings_ended : List ℕ → Question → Start → List ℕ → Bool
rings_ended file q start out = ended_of (rings_for file q) start out

-- rings: the answer, and the output at exit
abbrev pub RingsPortioned : List ℕ → Question → Start → List ℕ → List ℕ → Told → Type 0
RingsPortioned file q start out out' answer = PortionOf (rings_asked_fault file q) (rings_for file q) start out out' answer
