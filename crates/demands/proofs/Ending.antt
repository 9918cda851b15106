-- Demand 1: every operation ends with its answer, or with a numbered refusal, its place, and everything that was lent as it came.
use mathlib.Core.Path.{◌≡◌, refl, sym, ap, subst, ◌∙◌}
use mathlib.Core.Logic.{◌≢◌, ◌⊎◌, inl, inr}
use mathlib.Core.Bool.{Bool}
use mathlib.Core.List.{List, []}
use Prim.Native.Nat.{ℕ, ◌≤◌, ◌-◌}
use native.Mathlib.Omega.{arith}
use lib.ListN.{length, take, drop}
use denote.Ref.{Bor}
use borrow.Author.Tests.{le-ltb}
use Rattle.format.specs.Format.{person_count, link_count, feed_count}
use Rattle.checking.specs.Verdict as verdict
use Rattle.refusals.specs.Faults.{Fault, sound, fault, first_of, Numbered}
use Rattle.checking.specs.Checked.{file_fault, file_numbers, checked}
use Rattle.checking.specs.Rows.{view_start, view_end}
use Rattle.checking.specs.Answers.{verdict_said, Checks, Views}
use Rattle.std.specs.Prelude.{Result}
use Rattle.format.specs.declared.layout.Counts.{Counts}
use Rattle.checking.proofs.Numbered.{file_numbered}
use Rattle.ways.specs.Fewest.{fewest}
use Rattle.question.specs.declared.Question.{Question}
use Rattle.question.specs.Admission.{next}
use Rattle.question.specs.Asked.{person_fault, asked_numbers}
use Rattle.question.proofs.Numbered.{person_numbered}
use Rattle.distance.specs.Answers as distance
use Rattle.refusals.specs.declared.Refusal.{Refusal}
use Rattle.portion.specs.Listing.{portion_fault, portion_numbers, Portioned}
use Rattle.listing.specs.Portions.{Start, refusal_of, portion_of, ended_of}
use Rattle.listing.specs.Answers.{PortionOf}
use Rattle.listing.proofs.Telling.{refused_fault}
use Rattle.refusals.specs.Answers.{refused, answer_said, answer_for, Told}
use Rattle.portion.proofs.Instance.{portion_numbered}
use Rattle.rings.specs.Rings.{rings_numbers}
use Rattle.rings.proofs.Instance.{rings_numbered}
use Rattle.join.specs.Lists.{chains_for, join_fault, join_numbers, first_ones, all_fit}
use Rattle.join.specs.Answers.{Joins}
use Rattle.join.proofs.Numbered.{join_numbered}
use Rattle.demands.specs.Demands.{Ends, EveryEnds, RefusalLeaves}

-- what an operation answers by its first fault
module _ {A : Type 0} (refused : ℕ → ℕ → A) (answer_by : Fault → A) (says : (number place : ℕ) → answer_by (fault number place) ≡ refused number place)
    (differs : (number place : ℕ) → answer_by sound ≢ refused number place) where
  ends_by : (first : Fault) (numbers : List ℕ) → Numbered numbers first → {answer : A} → answer ≡ answer_by first → Ends refused first numbers answer
  ends_by first numbers numbered is =
      record {
        answers = λ e number place f. differs number place (sym (is ∙ ap answer_by e) ∙ f);
        refuses = λ number place e. (is ∙ ap answer_by e ∙ says number place, (subst (Numbered numbers) e numbered).0);
      }

check_ends : (file : List ℕ) (answer : Result Counts Refusal) → Checks file answer → Ends verdict.refused (file_fault file) file_numbers (verdict_said answer)
unfolding checked
check_ends file answer is =
    ends_by verdict.refused (λ f. verdict.verdict f (person_count file) (link_count file) (feed_count file)) (λ number place. refl)
    (λ number place e. let z : ◌≡◌ {A = ℕ} 0 1 = cc in omega arith) (file_fault file) file_numbers (file_numbered file) is

-- the row view by the first fault of the file
abbrev pub view_by : List ℕ → ℕ → Fault → List ℕ
view_by file person first =
    let said = verdict.verdict first (person_count file) (link_count file) (feed_count file) in
    take (view_end said file person - view_start said file person) (drop (view_start said file person) file)

-- that of a refused file, or of a person out of range
row_ends : (file view : Bor (List ℕ)) (person : ℕ) → Views file person view → (file_fault file.now ≢ sound) ⊎ (person_count file.now ≤ person) → view.now ≡ []
unfolding checked
row_ends file view person v why = v.bytes ∙ go (file_fault file.now) why
  where
    go : (first : Fault) → (first ≢ sound) ⊎ (person_count file.now ≤ person) → view_by file.now person first ≡ []
    go (fault number place) why = refl
    go sound (inl n) = absurd (n refl)
    go sound (inr h) = rw (le-ltb person (person_count file.now) h)

fewest_ends : (file : List ℕ) (q : Question) (person : ℕ) (answer : Result ℕ Refusal) → distance.FewestHops file q person answer
    → Ends distance.refused (first_of (file_fault file) (person_fault (person_count file) q person)) asked_numbers (distance.hops_said answer)
unfolding distance.answered
fewest_ends file q person answer is =
    ends_by distance.refused (λ f. distance.unless_refused f (fewest (next file q) q.to q.hops person)) (λ number place. refl)
    (λ number place e. let z : ◌≡◌ {A = ℕ} 0 1 = cc in omega arith) (first_of (file_fault file) (person_fault (person_count file) q person)) asked_numbers (person_numbered file q person) is

-- a portion of any listing and a join answer alike
listing_ends : (first : Fault) (numbers : List ℕ) (count : ℕ) (ended : Bool) (answer : Told) → Numbered numbers first → answer_said answer ≡ answer_for first count ended → Ends refused first numbers (answer_said answer)
listing_ends first numbers count ended answer numbered is =
    ends_by refused (λ f. answer_for f count ended) (λ number place. refl) (λ number place e. let z : ◌≡◌ {A = ℕ} 0 1 = cc in omega arith) first numbers numbered is

portion_ends : {first : Fault} {chains : List (List ℕ)} {start : Start} {out out' : List ℕ} {answer : Told} (numbers : List ℕ) → Numbered numbers (refusal_of first chains start out) → PortionOf first chains start out out' answer
    → Ends refused (refusal_of first chains start out) numbers (answer_said answer)
portion_ends {first} {chains} {start} {out} {answer = answer} numbers numbered p =
    listing_ends (refusal_of first chains start out) numbers (length (portion_of chains start out)) (ended_of chains start out) answer numbered p.answers

chains_end : (file : List ℕ) (q : Question) {start : Start} {out out' : List ℕ} {answer : Told} → Portioned file q start out out' answer
    → Ends refused (portion_fault file q start out) portion_numbers (answer_said answer)
chains_end file q {start} {out} p = portion_ends portion_numbers (portion_numbered file q start out) p

join_ends : (file : List ℕ) (q : Question) {working working' out out' : List ℕ} {answer : Told} → Joins file q working working' out out' answer
    → Ends refused (join_fault file q working out) join_numbers (answer_said answer)
join_ends file q {working} {out = out} {answer = answer} j =
    listing_ends (join_fault file q working out) join_numbers (length (first_ones (chains_for file q) out)) (all_fit (chains_for file q) out) answer (join_numbered file q working out) j.answers

pub every_ends : EveryEnds
every_ends =
    record {
      check = check_ends;
      row = row_ends;
      fewest = fewest_ends;
      portion = chains_end;
      rings = λ file q {start} {out} p. portion_ends rings_numbers (rings_numbered file q start out) p;
      held = λ {file} {held} m. chains_end file held.question m.portioned;
      join = join_ends;
    }

-- where a join answered a refusal, there was a fault, as `refused_fault` has it of a portion
first_fault : {A : Type 0} {refused : ℕ → ℕ → A} (first : Fault) {numbers : List ℕ} {number place : ℕ} {answer : A} → Ends refused first numbers answer → answer ≡ refused number place → (n : ℕ) × (p : ℕ) × (first ≡ fault n p)
first_fault sound {number = number} {place} ends said = absurd (ends.answers refl number place said)
first_fault (fault n p) ends said = (n, p, refl)

pub refusal_leaves : RefusalLeaves
refusal_leaves =
    record {
      portion = λ file q p said. p.cells ∙ rw (refused_fault p said);
      rings = λ file q p said. p.cells ∙ rw (refused_fault p said);
      held = λ m said. let e = refused_fault m.portioned said in (m.keeps ∙ rw e, m.portioned.cells ∙ rw e);
      join = λ file q {working} {working'} {out} j said. let f = first_fault (join_fault file q working out) (join_ends file q j) said in (j.shelf ∙ rw f.2, j.cells ∙ rw f.2);
    }
