-- The promise of a portion of any listing. Definitions only.
use Rattle.std.specs.Prelude.{◌≡◌, List, ℕ, length}
use Rattle.refusals.specs.Faults.{Fault}
use Rattle.refusals.specs.Answers.{Told, answer_said, answer_for, cells_for}
use Rattle.listing.specs.Portions.{Start, refusal_of, portion_of, ended_of}

-- the answer, and the output at exit: "It writes the first r chains after the bookmark, or all if fewer, from cell 0, and answers how many,
-- and whether the listing has ended."
pub record PortionOf (first : Fault) (chains : List (List ℕ)) (start : Start) (out out' : List ℕ) (answer : Told) : Type 0 where
  pub answers : answer_said answer ≡ answer_for (refusal_of first chains start out) (length (portion_of chains start out)) (ended_of chains start out)
  pub cells : out' ≡ cells_for (refusal_of first chains start out) (portion_of chains start out) out
