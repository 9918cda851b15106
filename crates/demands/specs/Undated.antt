-- The eighth number of a question, in what is answered. Definitions only.
-- "The question gains an eighth number, 1 to admit undated links, 0 to leave them out."
use Rattle.std.specs.Prelude.{Result, ◌≡◌, ◌≢◌, true, List, [], ◌∷◌, ℕ, length}
use Rattle.format.specs.Format.{person_count, day}
use Rattle.refusals.specs.Faults.{Fault, sound, first_of, lent}
use Rattle.refusals.specs.Answers.{room_fault, Told}
use Rattle.ways.specs.Graph.{◌∈◌}
use Rattle.ways.specs.ByHops.{by_hops}
use Rattle.ways.specs.Halves.{halves}
use Rattle.ways.specs.Fewest as ways
use Rattle.ways.specs.Sizes.{record_size}
use Rattle.question.specs.declared.Question.{Question}
use Rattle.question.specs.Asked.{asked_fault, rings_asked_fault}
use Rattle.question.specs.Admission.{admitted, AdmittedLink}
use Rattle.question.specs.Before.{admitted_before, next_before, asked_before, asked_of_before, AsBefore}
use Rattle.distance.specs.Answers.{hops_said, unless_refused, FewestHops}
use Rattle.refusals.specs.declared.Refusal.{Refusal}
use Rattle.listing.specs.Portions.{Start, refusal_of, portion_of}
use Rattle.listing.specs.Answers.{PortionOf}
use Rattle.portion.specs.Listing.{listing_for, listing_before, Portioned}
use Rattle.rings.specs.Rings.{rings_for}
use Rattle.held.specs.declared.Held.{Held}
use Rattle.held.specs.Holding.{start_of, held_after, MovedOn}
use Rattle.join.specs.Lists.{halves_fault}
use Rattle.join.specs.Answers.{JoinOf, Joins}

-- the half chains and the chains of the join before there was such a number, and its refusals
abbrev pub halves_before : List ℕ → Question → List (List ℕ)
halves_before file q = halves (next_before file q) (person_count file) q.from q.to q.hops

abbrev pub chains_before : List ℕ → Question → List (List ℕ)
chains_before file q = by_hops (next_before file q) q.from q.to q.hops

abbrev pub join_fault_before : List ℕ → Question → List ℕ → List ℕ → Fault
join_fault_before file q working out = first_of (asked_before file q) (room_fault (length out) (halves_fault record_size (length working) (halves_before file q)))

-- every answer, and every lent cell, is what the refusals and the lists of before give
pub record AnswersAsBefore (file : List ℕ) (q : Question) : Type 0 where
  pub fewest : (person : ℕ) (answer : Result ℕ Refusal) → FewestHops file q person answer
      → hops_said answer ≡ unless_refused (asked_of_before file q person) (ways.fewest (next_before file q) q.to q.hops person)
  pub portion : {start : Start} {out out' : List ℕ} {answer : Told} → Portioned file q start out out' answer → PortionOf (asked_before file q) (listing_before file q) start out out' answer
  pub held : {held held' : Held} {out out' : List ℕ} {answer : Told} → held.question ≡ q → MovedOn file held held' out out' answer
      → PortionOf (asked_before file q) (listing_before file q) (start_of held) out out' answer
      × (held' ≡ lent (refusal_of (asked_before file q) (listing_before file q) (start_of held) out) (held_after (portion_of (listing_before file q) (start_of held) out) held) held)
  pub join : {working working' out out' : List ℕ} {answer : Told} → Joins file q working working' out out' answer
      → JoinOf (join_fault_before file q working out) (halves_before file q) (chains_before file q) working working' out out' answer

-- each hop has an admitted link with a day
abbrev pub DatedHops : List ℕ → Question → List ℕ → Type 0
DatedHops file q [] = Unit {0}
DatedHops file q (p ∷ []) = Unit {0}
DatedHops file q (p ∷ v ∷ c) = ((l : AdmittedLink file q p v) × (day file l.link ≢ 0)) × DatedHops file q (v ∷ c)

pub record UndatedAsSaid : Type 0 where
  -- "1 to admit undated links": everything is as it was before there was such a number
  pub admits : (file : List ℕ) (q : Question) → q.undated ≡ 1 → AsBefore file q × AnswersAsBefore file q
  -- "0 to leave them out": no undated link is admitted, and every other one as before
  pub leaves_out : (file : List ℕ) (q : Question) → q.undated ≡ 0 → (link : ℕ) → admitted file q link ≡ true → day file link ≢ 0
  pub keeps_dated : (file : List ℕ) (q : Question) (link : ℕ) → day file link ≢ 0 → admitted file q link ≡ admitted_before file q link
  -- so no chain of the listing rests on an undated link, and no ring
  pub dated : (file : List ℕ) (q : Question) → asked_fault file q ≡ sound → q.undated ≡ 0 → (c : List ℕ) → c ∈ listing_for file q → DatedHops file q c
  pub dated_rings : (file : List ℕ) (q : Question) → rings_asked_fault file q ≡ sound → q.undated ≡ 0 → (c : List ℕ) → c ∈ rings_for file q → DatedHops file q c
