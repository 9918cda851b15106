-- Calls of a held listing one after another are calls of its listing, so the listing comes end to end, and then nothing more.
use mathlib.Core.Path.{◌≡◌, refl, sym, ap, subst, ◌∙◌}
use mathlib.Core.Logic.{◌≢◌}
use mathlib.Core.Bool.{true}
use mathlib.Core.List.{List, [], ◌∷◌}
use Prim.Native.Nat.{ℕ}
use borrow.Author.Tests.{ne_eqb}
use Rattle.refusals.specs.Faults.{Fault, sound, fault, lent}
use Rattle.refusals.specs.Answers.{listed, refused, answer_said, Told}
use Rattle.question.specs.declared.Question.{Question}
use Rattle.question.specs.Asked.{asked_fault}
use Rattle.listing.specs.Portions.{Start, bookmarked, start_fault}
use Rattle.listing.specs.EndToEnd.{Call}
use Rattle.listing.specs.Onward as any
use Rattle.listing.specs.Onward.{start_after, MovesOn, Quiet}
use Rattle.listing.proofs.Telling.{listed_sound, listed_count, refused_fault}
use Rattle.listing.proofs.LaidEnd.{laid_fresh, laid-behind}
use Rattle.listing.proofs.Onward as onward
use Rattle.portion.specs.Listing as portions
use Rattle.portion.specs.Listing.{listing_for, portion_fault, portion_for, LaidEndToEnd, Resumed}
use Rattle.portion.proofs.Instance.{chains-listing}
use Rattle.held.specs.declared.Held.{Held}
use Rattle.held.specs.Holding.{start_of, held_after, MovedOn}
use Rattle.held.specs.Calls.{Run, rests, moves, refusal}
use Rattle.held.proofs.Telling.{none_after}

module _ {file : List ℕ} {held held' : Held} {out out' : List ℕ} {answer : Told} (m : MovedOn file held held' out out' answer) where
  -- a refusal leaves the held listing as it was, and so does a portion of no chain
  refused_stays : {number place : ℕ} → answer_said answer ≡ refused number place → held' ≡ held
  refused_stays said = m.keeps ∙ rw (refused_fault m.portioned said)

  none_stays : answer_said answer ≡ listed 0 true → held' ≡ held
  none_stays said = m.keeps ∙ rw (listed_sound m.portioned said) (none_after (portion_for file held.question (start_of held) out) held (sym (listed_count m.portioned said)))

  -- it keeps its question, and its start moves on as that of any listing
  pub same_question : held'.question ≡ held.question
  same_question = ap (λ (h : Held). h.question) m.keeps ∙ go (portion_fault file held.question (start_of held) out) (portion_for file held.question (start_of held) out)
    where
      go : (f : Fault) (P : List (List ℕ)) → (lent f (held_after P held) held).question ≡ held.question
      go sound [] = refl
      go sound (c ∷ P) = refl
      go (fault number place) P = refl

  start_moves : MovesOn (asked_fault file held.question) (listing_for file held.question) (start_of held) (start_of held') out out' answer
  start_moves = record { portioned = m.portioned; keeps = ap start_of m.keeps ∙ go (portion_fault file held.question (start_of held) out) (portion_for file held.question (start_of held) out) }
    where
      go : (f : Fault) (P : List (List ℕ)) → start_of (lent f (held_after P held) held) ≡ lent f (start_after P (start_of held)) (start_of held)
      go sound [] = refl
      go sound (c ∷ P) = refl
      go (fault number place) P = refl

-- calls on one file and question, from a start to a start
abbrev CallsFor : List ℕ → Question → Start → List Call → Start → Type 0
CallsFor file q start calls start' = any.Calls (asked_fault file q) (listing_for file q) start calls start'

calls_of : {file : List ℕ} {held held' : Held} {calls : List Call} → Run file held calls held' → CallsFor file held.question (start_of held) calls (start_of held')
calls_of rests = any.rests
calls_of {file} {held' = held'} (moves {between = between} {calls = calls} m h r) =
    any.moves (start_moves m) h (subst (λ (q : Question). CallsFor file q (start_of between) calls (start_of held')) (same_question m) (calls_of r))
calls_of {file} {held' = held'} (refusal {between = between} {calls = calls} m said r) =
    any.refusal (start_moves m) said (subst (λ (q : Question). CallsFor file q (start_of between) calls (start_of held')) (same_question m) (calls_of r))

-- from wherever the held listing starts, its calls are a run of portions
follows_from : {file : List ℕ} {held held' : Held} {calls : List Call} {start : Start} → start_of held ≡ start → Run file held calls held' → portions.Run file held.question start calls
follows_from {file} {held} {calls = calls} begins run = subst (λ (start : Start). portions.Run file held.question start calls) begins (onward.follows (chains-listing file held.question) (calls_of run))

-- Demand 3 over held listings: calls one after another on one file, the first not yet started, whatever the rooms
pub held_end_to_end : {file : List ℕ} {held held' : Held} {calls : List Call} → asked_fault file held.question ≡ sound → held.started ≡ 0 → Run file held calls held' → LaidEndToEnd file held.question calls
held_end_to_end {file} {held} asked unstarted run = laid_fresh asked (chains-listing file held.question asked) (follows_from (rw unstarted) run)

-- and where it was started before: from the chain behind its record on
pub held_resumed_lem : {file : List ℕ} {held held' : Held} {calls : List Call} → asked_fault file held.question ≡ sound → held.started ≢ 0 → start_fault (listing_for file held.question) (bookmarked held.«record») ≡ sound
    → Run file held calls held' → Resumed file held.question held.«record» calls
held_resumed_lem {file} {held} asked started passing run = laid-behind asked (chains-listing file held.question asked) held.«record» passing (follows_from (rw (ne_eqb held.started 0 started)) run)

-- calls that bring nothing leave it as it was
quiet_stays : {file : List ℕ} {held held' : Held} {calls : List Call} → Run file held calls held' → Quiet calls → held' ≡ held
quiet_stays rests quiet = refl
quiet_stays (moves m h r) quiet = quiet_stays r quiet.2 ∙ none_stays m quiet.0
quiet_stays (refusal m said r) quiet = quiet_stays r quiet ∙ refused_stays m said

-- once a call has answered ended, from whatever held listing, every later one answers 0 chains and ended, and nothing changes
pub held_ended_lem : {file : List ℕ} {held held' held'' : Held} {out out' : List ℕ} {answer : Told} {count : ℕ} {calls : List Call} → MovedOn file held held' out out' answer → answer_said answer ≡ listed count true
    → Run file held' calls held'' → (held'' ≡ held') × Quiet calls
held_ended_lem {file} {held} {held'} {held''} {calls = calls} m said run =
    let later = subst (λ (q : Question). CallsFor file q (start_of held') calls (start_of held'')) (same_question m) (calls_of run) in
    let quiet = onward.ended_quiet (chains-listing file held.question) (start_moves m) said later in
    (quiet_stays run quiet, quiet)
