-- A desk's place in a listing, moved on call by call. Definitions only.
use Rattle.std.specs.Prelude.{◌≡◌, true, List, [], ◌∷◌, ℕ, ◌≤◌, length}
use Rattle.refusals.specs.Faults.{Fault, lent}
use Rattle.refusals.specs.Answers.{Told, listed, refused, answer_said}
use Rattle.ways.specs.Portions.{last_or}
use Rattle.ways.specs.Records.{record_of}
use Rattle.ways.specs.Sizes.{record_size}
use Rattle.listing.specs.Portions.{Start, bookmarked, refusal_of, portion_of}
use Rattle.listing.specs.Answers.{PortionOf}
use Rattle.listing.specs.EndToEnd.{Call}

-- "With chains written, started is set and the record is the last one; with none, nothing in it changes."
abbrev pub start_after : List (List ℕ) → Start → Start
start_after [] start = start
start_after (c ∷ chains) start = bookmarked (record_of record_size (last_or c chains))

-- a call by a portion, and where the next one starts; a refusal changes nothing
pub record MovesOn (first : Fault) (chains : List (List ℕ)) (start start' : Start) (out out' : List ℕ) (answer : Told) : Type 0 where
  pub portioned : PortionOf first chains start out out' answer
  pub keeps : start' ≡ lent (refusal_of first chains start out) (start_after (portion_of chains start out) start) start

-- the calls led from one start to another, each by the promise and with room for a record at least; those that were refused in between,
-- as for want of room, are not among them
pub data Calls (first : Fault) (chains : List (List ℕ)) : Start → List Call → Start → Type 0 where
  rests : {start : Start} → Calls first chains start [] start
  moves : {start between start' : Start} {call : Call} {calls : List Call} → MovesOn first chains start between call.out call.exit call.answer → record_size ≤ length call.out
      → Calls first chains between calls start' → Calls first chains start (call ∷ calls) start'
  refusal : {start between start' : Start} {out out' : List ℕ} {answer : Told} {number place : ℕ} {calls : List Call} → MovesOn first chains start between out out' answer → answer_said answer ≡ refused number place
      → Calls first chains between calls start' → Calls first chains start calls start'

-- every call answers 0 chains and ended, and changes no cell
abbrev pub Quiet : List Call → Type 0
Quiet [] = Unit {0}
Quiet (call ∷ calls) = (answer_said call.answer ≡ listed 0 true) × (call.exit ≡ call.out) × Quiet calls
