-- What listing from a start asks of its caller, and what it promises. Definitions only.
use Rattle.std.specs.Prelude.{◌≡◌, List, ℕ, ◌≤◌, length}
use Rattle.refusals.specs.Faults.{sound}
use Rattle.refusals.specs.Answers.{Told}
use Rattle.ways.specs.Listing.{listing}
use Rattle.ways.specs.Sizes.{record_size}
use Rattle.question.specs.declared.Question.{Question}
use Rattle.question.specs.declared.Wanted.{Wanted}
use Rattle.question.specs.Asked.{asked_for}
use Rattle.question.specs.Admission.{next}
use Rattle.listing.specs.Portions.{Start}
use Rattle.listing.specs.Answers.{PortionOf}

-- a file, a question and an output that have passed, whatever is wanted
pub record Passes (file : List ℕ) (q : Question) (out : List ℕ) : Type 0 where
  pub wanted : Wanted
  pub asked : asked_for wanted file q ≡ sound
  pub room : record_size ≤ length out

-- a portion of what the search lists from From to To, which may be one person; 17 is all that may be refused
abbrev pub Starts : List ℕ → Question → Start → List ℕ → List ℕ → Told → Type 0
Starts file q start out out' answer = PortionOf sound (listing (next file q) q.from q.to q.hops) start out out' answer

-- the same of whatever is wanted, with what is refused of the file and the question first
abbrev pub Answers : Wanted → List ℕ → Question → Start → List ℕ → List ℕ → Told → Type 0
Answers wanted file q start out out' answer = PortionOf (asked_for wanted file q) (listing (next file q) q.from q.to q.hops) start out out' answer
