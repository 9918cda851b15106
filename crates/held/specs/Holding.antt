-- The promise of the held listing. Definitions only.
-- "a question, a started mark and the last record. One call moves the desk's held listing on by a portion and changes it in its own place."
use Rattle.refusals.specs.Answers.{Told}
use Rattle.std.specs.Prelude.{◌≡◌, List, [], ◌∷◌, ℕ}
use Rattle.refusals.specs.Faults.{lent}
use Rattle.ways.specs.Portions.{last_or}
use Rattle.ways.specs.Records.{record_of}
use Rattle.ways.specs.Sizes.{record_size}
use Rattle.portion.specs.Listing.{portion_fault, portion_for, Portioned}
use Rattle.listing.specs.Portions.{Start, start_said}
use Rattle.held.specs.declared.Held.{Held}

-- where the next portion starts. "A held listing not yet started ignores its record."
abbrev pub start_of : Held → Start
start_of held = start_said held.started held.«record»

-- "With chains written, started is set and the record is the last one; with none, nothing in it changes."
abbrev pub held_after : List (List ℕ) → Held → Held
held_after [] held = held
held_after (c ∷ chains) held = record { question = held.question; started = 1; «record» = record_of record_size (last_or c chains) }

-- held listing: the answer and the output are the portion's, and the held listing at exit. A refusal changes nothing in it, also 17 for
-- a started one with a bad record
pub record MovedOn (file : List ℕ) (held held' : Held) (out out' : List ℕ) (answer : Told) : Type 0 where
  pub portioned : Portioned file held.question (start_of held) out out' answer
  pub keeps : held' ≡ lent (portion_fault file held.question (start_of held) out) (held_after (portion_for file held.question (start_of held) out) held) held
