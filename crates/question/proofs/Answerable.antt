-- What a file and a question that have passed give, for every operation that answers them.
use mathlib.Core.Path.{◌≡◌}
use mathlib.Core.Logic.{◌≢◌}
use mathlib.Core.List.{List}
use Prim.Native.Nat.{ℕ, ◌≤◌, ◌<◌}
use native.Mathlib.Omega.{arith}
use Rattle.refusals.specs.Faults.{sound}
use Rattle.refusals.proofs.Faults.{first_both}
use Rattle.format.specs.Format.{person_count, link_count, feed_count}
use Rattle.checking.specs.Checked.{file_fault}
use Rattle.checking.proofs.Passed.{Passed, sound_rules, passed_fits}
use Rattle.compact.specs.Compact.{persons}
use Rattle.question.specs.Asked.{question_fault, person_fault, asked_for, asked_fault, rings_asked_fault, asked_of_fault}
use Rattle.question.specs.declared.Question.{Question}
use Rattle.question.specs.declared.Wanted.{Wanted}
use Rattle.question.specs.declared.Wanted as code
use Rattle.question.proofs.Refused.{Proper, question_proper, question_differ, question_same, person_proper}

-- the file passed, and so did the question; its ends are persons of the compact graph
pub record Answerable (file : List ℕ) (q : Question) : Type 0 where
  pub faultless : file_fault file ≡ sound
  pub rules : Passed file (person_count file) (link_count file) (feed_count file)
  pub proper : Proper (person_count file) q
  pub few : person_count file ≤ persons
  pub from : q.from < persons
  pub to : q.to < persons

answerable : (file : List ℕ) (q : Question) → file_fault file ≡ sound → Proper (person_count file) q → Answerable file q
answerable file q e p =
    let rules = sound_rules file e in
    let few = (passed_fits rules).persons in
    record { faultless = e; rules = rules; proper = p; few = few; from = omega (arith, p.from); to = omega (arith, p.to) }

module _ (file : List ℕ) (q : Question) where
  -- whatever is wanted
  pub wanted_answerable : (wanted : Wanted) → asked_for wanted file q ≡ sound → Answerable file q
  wanted_answerable wanted e =
      let both = first_both (file_fault file) (question_fault wanted (person_count file) q) e in
      answerable file q both.0 (question_proper wanted (person_count file) q both.1)

  pub asked_answerable : asked_fault file q ≡ sound → Answerable file q
  asked_answerable e = wanted_answerable code.TheVariants.Chains e

  -- chains lead from one person to another, and rings back to the same
  pub asked_differ : asked_fault file q ≡ sound → q.from ≢ q.to
  asked_differ e = question_differ (person_count file) q (first_both (file_fault file) (question_fault code.TheVariants.Chains (person_count file) q) e).1

  pub asked_same : rings_asked_fault file q ≡ sound → q.from ≡ q.to
  asked_same e = question_same (person_count file) q (first_both (file_fault file) (question_fault code.TheVariants.Rings (person_count file) q) e).1

-- a question that names one person more
pub asked_of_answerable : (file : List ℕ) (q : Question) (person : ℕ) → asked_of_fault file q person ≡ sound → Answerable file q × (person < persons)
asked_of_answerable file q person e =
    let both = first_both (file_fault file) (person_fault (person_count file) q person) e in
    let p = person_proper (person_count file) q person both.1 in
    let a = answerable file q both.0 p.0 in
    (a, omega (arith, a.few, p.1))
