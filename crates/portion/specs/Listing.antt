-- What a file and a question list, and the promise of the portion: the first instance of a listing (listing, specs/). Definitions only.
use Rattle.refusals.specs.Answers.{Told}
use Rattle.std.specs.Prelude.{List, Bool, ℕ}
use Rattle.refusals.specs.Faults.{Fault}
use Rattle.ways.specs.Listing.{listing}
use Rattle.question.specs.declared.Question.{Question}
use Rattle.question.specs.Asked.{asked_fault, asked_numbers}
use Rattle.question.specs.Admission.{next}
use Rattle.question.specs.Before.{next_before}
use Rattle.listing.specs.Portions.{Start, refusal_of, portion_numbers_after, portion_of, ended_of}
use Rattle.listing.specs.Answers.{PortionOf}
use Rattle.listing.specs.EndToEnd as any

-- the listing of a file and a question: every chain over the admitted links
abbrev pub listing_for : List ℕ → Question → List (List ℕ)
listing_for file q = listing (next file q) q.from q.to q.hops

-- the same before the question had its eighth number
abbrev pub listing_before : List ℕ → Question → List (List ℕ)
listing_before file q = listing (next_before file q) q.from q.to q.hops

-- the first refusal of a portion: 1 to 9, 10 to 15, 20, 16 (output under ten cells), 17
abbrev pub portion_fault : List ℕ → Question → Start → List ℕ → Fault
portion_fault file q start out = refusal_of (asked_fault file q) (listing_for file q) start out

abbrev pub portion_numbers : List ℕ
portion_numbers = portion_numbers_after asked_numbers

-- "the first r chains after the bookmark, or all if fewer"
abbrev pub portion_for : List ℕ → Question → Start → List ℕ → List (List ℕ)
portion_for file q start out = portion_of (listing_for file q) start out

-- "whether the listing has ended"
abbrev pub ended_for : List ℕ → Question → Start → List ℕ → Bool
ended_for file q start out = ended_of (listing_for file q) start out

-- portion: the answer, and the output at exit
abbrev pub Portioned : List ℕ → Question → Start → List ℕ → List ℕ → Told → Type 0
Portioned file q start out out' answer = PortionOf (asked_fault file q) (listing_for file q) start out out' answer

-- a run of calls on one file and question, from a start on
abbrev pub Run : List ℕ → Question → Start → List any.Call → Type 0
Run file q start calls = any.Run (asked_fault file q) (listing_for file q) start calls

-- demand 3: from a fresh start the whole listing is left
abbrev pub LaidEndToEnd : List ℕ → Question → List any.Call → Type 0
LaidEndToEnd file q calls = any.Laid (listing_for file q) calls

-- and after a bookmark, whoever kept it: what stands behind its own chain
abbrev pub Resumed : List ℕ → Question → List ℕ → List any.Call → Type 0
Resumed file q bookmark calls = any.ResumedIn (listing_for file q) bookmark calls
