-- The promise of fewest hops. Definitions only.
use Rattle.std.specs.Prelude.{◌≡◌, List, ℕ, Result, Ok, Err}
use Rattle.refusals.specs.Faults.{Fault, sound, fault}
use Rattle.refusals.specs.Reasons.{number_of}
use Rattle.refusals.specs.declared.Refusal.{Refusal}
use Rattle.ways.specs.Fewest.{fewest}
use Rattle.question.specs.Asked.{asked_of_fault}
use Rattle.question.specs.Admission.{next}
use Rattle.question.specs.declared.Question.{Question}

-- the hops, or refused with number and place
pub data HopsAnswer : Type 0 where
  hops : ℕ → HopsAnswer
  refused : ℕ → ℕ → HopsAnswer

-- what the code's result says, in these words
abbrev pub hops_said : Result ℕ Refusal → HopsAnswer
hops_said (Ok h) = hops h
hops_said (Err refusal) = refused (number_of refusal.reason) refusal.place

abbrev pub unless_refused : Fault → ℕ → HopsAnswer
unless_refused sound h = hops h
unless_refused (fault number place) h = refused number place

-- "Fewest hops: from any person p to To over admitted links, at most k, else k+1. To itself answers 0." The file's refusals come before
-- the question's. "Fewest hops reports its extra person as 10 with place 2, after From and To and before 11."
unfoldable pub answered : List ℕ → Question → ℕ → HopsAnswer
answered file q person =
    unless_refused (asked_of_fault file q person) (fewest (next file q) q.to q.hops person)

abbrev pub FewestHops : List ℕ → Question → ℕ → Result ℕ Refusal → Type 0
FewestHops file q person answer = hops_said answer ≡ answered file q person
