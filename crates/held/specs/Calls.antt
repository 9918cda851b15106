-- Calls of one held listing, one after another, on one file. Definitions only.
-- What a call wrote, the rooms together, and demand 3 itself are those of any listing (listing, specs/EndToEnd).
use Rattle.std.specs.Prelude.{◌≡◌, List, [], ◌∷◌, ℕ, ◌≤◌, length}
use Rattle.ways.specs.Sizes.{record_size}
use Rattle.refusals.specs.Answers.{refused, answer_said, Told}
use Rattle.listing.specs.EndToEnd.{Call}
use Rattle.held.specs.declared.Held.{Held}
use Rattle.held.specs.Holding.{MovedOn}

-- the calls led from one held listing to another, each by the promise and with room for a record at least; those that were
-- refused in between, as for want of room, are not among them
pub data Run (file : List ℕ) : Held → List Call → Held → Type 0 where
  rests : {held : Held} → Run file held [] held
  moves : {held between held' : Held} {call : Call} {calls : List Call} → MovedOn file held between call.out call.exit call.answer → record_size ≤ length call.out
      → Run file between calls held' → Run file held (call ∷ calls) held'
  refusal : {held between held' : Held} {out out' : List ℕ} {answer : Told} {number place : ℕ} {calls : List Call} → MovedOn file held between out out' answer → answer_said answer ≡ refused number place
      → Run file between calls held' → Run file held calls held'
