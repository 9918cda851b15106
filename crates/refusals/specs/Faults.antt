-- Faults, and looks laid one behind the other: the first that finds one decides. Definitions only.
use Rattle.std.specs.Prelude.{Bool, true, false, List, ℕ, zero, suc, ◌^◌, ◌<◌, Result, Ok, Err}
use Rattle.ways.specs.Graph.{◌∈◌}
use Rattle.refusals.specs.Reasons.{number_of}
use Rattle.refusals.specs.declared.Refusal.{Refusal}

-- a fault has the number of its refusal and its place
pub data Fault : Type 0 where
  sound : Fault
  fault : ℕ → ℕ → Fault

-- what a refusal says, in these words
abbrev pub refusal_said : Refusal → Fault
refusal_said refusal = fault (number_of refusal.reason) refusal.place

-- what the code's look says, in these words
abbrev pub fault_said : Result (Unit {0}) Refusal → Fault
fault_said (Ok nothing) = sound
fault_said (Err refusal) = refusal_said refusal

-- unless the rule holds there is this fault; what is looked at afterwards decides else
abbrev pub unless : Bool → ℕ → ℕ → Fault → Fault
unless true number place after = after
unless false number place after = fault number place

-- the first of two looks that finds a fault
abbrev pub first_of : Fault → Fault → Fault
first_of sound after = after
first_of (fault number place) after = fault number place

-- the first fault of so many looks, in order, from a place on
unfoldable pub first_among : (ℕ → Fault) → ℕ → ℕ → Fault
first_among look from zero = sound
first_among look from (suc count) = first_of (look from) (first_among look (suc from) count)

-- a fault, if there is one, has one of these numbers, and a place of 32 bits
abbrev pub Numbered : List ℕ → Fault → Type 0
Numbered numbers sound = Unit {0}
Numbered numbers (fault number place) = (number ∈ numbers) × (place < 2 ^ 32)

-- "All lent memory stays as it came" where there is a fault; else it is as it was left
abbrev pub lent : {A : Type 0} → Fault → A → A → A
lent sound left came = left
lent (fault number place) left came = came
