-- An answer as one number of 64 bits. Definitions only.
use Rattle.std.specs.Prelude.{◌≡◌, Bool, true, false, List, ℕ, ◌+◌, ◌*◌, ◌^◌, ◌<◌, length}
use Rattle.checking.specs.Verdict.{Verdict, passed, refused}
use Rattle.checking.specs.Checked.{checked}
use Rattle.checking.specs.Rows.{row_view}
use Rattle.question.specs.declared.Question.{Question}
use Rattle.distance.specs.Answers as distance
use Rattle.refusals.specs.Answers as answers
use Rattle.refusals.specs.Answers.{Told}
use Rattle.refusals.specs.Faults.{Fault}
use Rattle.question.specs.Asked.{asked_fault, rings_asked_fault}
use Rattle.portion.specs.Listing.{listing_for}
use Rattle.rings.specs.Rings.{rings_for}
use Rattle.listing.specs.Portions.{Start}
use Rattle.listing.specs.Answers.{PortionOf}
use Rattle.join.specs.Answers.{Joins}

-- the eight numbers of a question, in the customer's order
abbrev pub asking : ℕ → ℕ → ℕ → ℕ → ℕ → ℕ → ℕ → ℕ → Question
asking from to hops classes meaning first last undated =
    record { from = from; to = to; hops = hops; classes = classes; meaning = meaning; first = first; last = last; undated = undated }

-- a refusal: 2^63 + number * 2^32 + place
abbrev pub refusal_number : ℕ → ℕ → ℕ
refusal_number number place = 2 ^ 63 + number * 2 ^ 32 + place

-- a verdict: n + m * 2^16 + f * 2^32, or the refusal
abbrev pub verdict_number : Verdict → ℕ
verdict_number (passed n m f) = n + m * 2 ^ 16 + f * 2 ^ 32
verdict_number (refused number place) = refusal_number number place

-- fewest hops: the hops, or the refusal
abbrev pub hops_number : distance.HopsAnswer → ℕ
hops_number (distance.hops h) = h
hops_number (distance.refused number place) = refusal_number number place

-- a listing: count + ended * 2^62, or the refusal
abbrev pub ended_number : Bool → ℕ
ended_number true = 1
ended_number false = 0

abbrev pub listed_number : answers.Answer → ℕ
listed_number (answers.listed count ended) = count + ended_number ended * 2 ^ 62
listed_number (answers.refused number place) = refusal_number number place

-- an answer whose numbers have room in it
abbrev pub Small : answers.Answer → Type 0
Small (answers.listed count ended) = count < 2 ^ 62
Small (answers.refused number place) = (number < 2 ^ 31) × (place < 2 ^ 32)

-- what each function answers, and the lent cells at exit: the promise of the operation behind it, its answer as a number
abbrev pub CheckNumber : List ℕ → ℕ → Type 0
CheckNumber file number = number ≡ verdict_number (checked file)

-- the length in bytes of the row view, 0 where it is empty
abbrev pub RowNumber : List ℕ → ℕ → ℕ → Type 0
RowNumber file person number = number ≡ length (row_view file person)

abbrev pub FewestNumber : List ℕ → Question → ℕ → ℕ → Type 0
FewestNumber file q person number = number ≡ hops_number (distance.answered file q person)

-- a portion of any listing, of which this is the first fault before it is looked at
pub record ListingNumber (first : Fault) (chains : List (List ℕ)) (start : Start) (out out' : List ℕ) (number : ℕ) : Type 0 where
  pub answer : Told
  pub portioned : PortionOf first chains start out out' answer
  pub small : Small (answers.answer_said answer)
  pub answers : number ≡ listed_number (answers.answer_said answer)

abbrev pub PortionNumber : List ℕ → Question → Start → List ℕ → List ℕ → ℕ → Type 0
PortionNumber file q start out out' number = ListingNumber (asked_fault file q) (listing_for file q) start out out' number

abbrev pub RingsNumber : List ℕ → Question → Start → List ℕ → List ℕ → ℕ → Type 0
RingsNumber file q start out out' number = ListingNumber (rings_asked_fault file q) (rings_for file q) start out out' number

pub record JoinNumber (file : List ℕ) (q : Question) (working working' out out' : List ℕ) (number : ℕ) : Type 0 where
  pub answer : Told
  pub joins : Joins file q working working' out out' answer
  pub small : Small (answers.answer_said answer)
  pub answers : number ≡ listed_number (answers.answer_said answer)
