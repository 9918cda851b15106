-- From the tests to the promise: what is refused in front of a listing, and what decides once nothing is.
use mathlib.Core.Path.{◌≡◌, refl}
use mathlib.Core.List.{List}
use Prim.Native.Nat.{ℕ, ◌≤◌}
use lib.ListN.{length}
use Rattle.std.specs.Prelude.{Err}
use Rattle.refusals.specs.declared.Refusal.{Refusal}
use Rattle.refusals.specs.Faults.{Fault, sound, fault, refusal_said, first_of}
use Rattle.refusals.specs.Answers.{Told, room_fault}
use Rattle.refusals.proofs.Room.{room_refuses, room_left}
use Rattle.ways.specs.Sizes.{record_size}
use Rattle.listing.specs.Portions.{Start, start_fault, refusal_of}
use Rattle.listing.specs.Answers.{PortionOf}

-- a refusal answers its number and place, and changes no cell
pub portion_refused : {first : Fault} {chains : List (List ℕ)} {start : Start} {out : List ℕ} {refusal : Refusal} → refusal_of first chains start out ≡ refusal_said refusal → PortionOf first chains start out out (Err refusal)
portion_refused e = record { answers = rw e; cells = rw e }

-- what is found before the listing is looked at is refused first
pub refused_first : {first : Fault} {chains : List (List ℕ)} {start : Start} {out : List ℕ} {refusal : Refusal} → first_of first (room_fault (length out) sound) ≡ refusal_said refusal → PortionOf first chains start out out (Err refusal)
unfolding refusal_of
refused_first {first} {chains} {start} {out} e = portion_refused (room_refuses first (length out) (start_fault chains start) e)

-- with nothing found before and room for a record, the start decides
pub start_left : {first : Fault} (chains : List (List ℕ)) (start : Start) (out : List ℕ) → first ≡ sound → record_size ≤ length out → refusal_of first chains start out ≡ start_fault chains start
unfolding refusal_of
start_left chains start out none h = room_left (length out) (start_fault chains start) none h

-- and what is then promised is promised of the whole
pub nothing-first : {first : Fault} {chains : List (List ℕ)} {start : Start} {out out' : List ℕ} {answer : Told} → first ≡ sound → PortionOf sound chains start out out' answer → PortionOf first chains start out out' answer
nothing-first none p = rw none p

-- where nothing is found before, one list may stand for another that it is equal to; else neither is looked at
pub listed_same : (first : Fault) {chains other : List (List ℕ)} {start : Start} {out out' : List ℕ} {answer : Told} → (first ≡ sound → chains ≡ other) → PortionOf first chains start out out' answer → PortionOf first other start out out' answer
unfolding refusal_of
listed_same sound same p = rw (← same refl) p
listed_same (fault number place) same p = record { answers = p.answers; cells = p.cells }
