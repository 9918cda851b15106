-- 16 behind any first fault: what both refuse together, and what is left where they refuse nothing.
use mathlib.Core.Path.{◌≡◌}
use mathlib.Core.Bool.{Bool, true, false}
use Prim.Native.Nat.{ℕ, ◌≤◌}
use native.Mathlib.Omega.{arith}
use lib.Dec.{leb}
use borrow.Author.Tests.{leb-true, le-leb}
use Rattle.ways.specs.Sizes.{record_size}
use Rattle.refusals.specs.Faults.{Fault, sound, fault, unless, first_of}
use Rattle.refusals.specs.Answers.{room_fault}
use Rattle.refusals.proofs.Faults.{first_both, unless_none}

-- what is refused so far is refused whatever is looked at afterwards
pub room_refuses : (first : Fault) (cells : ℕ) (after : Fault) {number place : ℕ} → first_of first (room_fault cells sound) ≡ fault number place → first_of first (room_fault cells after) ≡ fault number place
room_refuses first cells after {number} {place} e = go first (leb record_size cells) e
  where
    go : (first : Fault) (holds : Bool) → first_of first (unless holds 16 0 sound) ≡ fault number place → first_of first (unless holds 16 0 after) ≡ fault number place
    go sound true e = let z : ◌≡◌ {A = ℕ} 0 1 = cc in absurd (omega arith)
    go sound false e = e
    go (fault n p) holds e = e

-- where nothing is, there was no fault before and the output holds a record
pub room_passes : (first : Fault) (cells : ℕ) → first_of first (room_fault cells sound) ≡ sound → (first ≡ sound) × (record_size ≤ cells)
room_passes first cells e =
    let both = first_both first (room_fault cells sound) e in
    (both.0, leb-true record_size cells (unless_none (leb record_size cells) 16 0 both.1).0)

-- and then what is looked at afterwards decides
pub room_left : {first : Fault} (cells : ℕ) (after : Fault) → first ≡ sound → record_size ≤ cells → first_of first (room_fault cells after) ≡ after
room_left cells after none h = rw (none, le-leb record_size cells h)
