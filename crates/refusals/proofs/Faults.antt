-- The first fault of several looks: one look more, and what it means that there is none.
use mathlib.Core.Path.{◌≡◌, refl, sym, ap, ◌∙◌}
use mathlib.Core.Bool.{Bool, true, false}
use Prim.Native.Nat.{ℕ, zero, suc, ◌+◌, ◌-◌, ◌<◌, ◌≤◌}
use native.Mathlib.Numerals.{add-one}
use native.Mathlib.Decide.{ℕ_discrete}
use native.Mathlib.Omega.{arith}
use Rattle.refusals.specs.Reasons.{number_of}
use Rattle.refusals.specs.Faults.{Fault, sound, fault, fault_said, unless, first_of, first_among}
use Rattle.std.specs.Prelude.{Result, Ok, Err}
use Rattle.refusals.specs.declared.Refusal.{Refusal}
use Rattle.refusals.proofs.Reasons.{refusal_same}

-- what is still to be looked at, from `at` up to `end`, decides the whole
pub record Looking (look : ℕ → Fault) (whole : Fault) (at end : ℕ) : Type 0 where
  pub bound : at ≤ end
  pub rest : whole ≡ first_among look at (end - at)

pub look_starts : (look : ℕ → Fault) (at count : ℕ) {end : ℕ} → end ≡ at + count → Looking look (first_among look at count) at end
look_starts look at count {end} e = let c : end - at ≡ count = omega arith in record { bound = omega arith; rest = rw c }

module _ {look : ℕ → Fault} {whole : Fault} {at end : ℕ} (l : Looking look whole at end) where
  -- a look that finds nothing leaves the rest to decide
  pub look_on : at < end → look at ≡ sound → Looking look whole (at + 1) end
  unfolding first_among
  look_on h s =
      let e : end - at ≡ suc (end - (at + 1)) = omega arith in
      record { bound = omega arith; rest = l.rest ∙ rw (e, s, add-one at) }

  -- a look that finds a fault decides
  pub look_stops : {number place : ℕ} → at < end → look at ≡ fault number place → fault number place ≡ whole
  unfolding first_among
  look_stops h s = let e : end - at ≡ suc (end - (at + 1)) = omega arith in sym (rw (e, s) at l.rest)

  -- nothing is left to look at
  pub look_ends : end ≤ at → sound ≡ whole
  unfolding first_among
  look_ends h = let e : end - at ≡ 0 = omega arith in sym (rw e at l.rest)

-- no fault behind a rule is no fault of the rule, and none after it
pub unless_none : (rule : Bool) (number place : ℕ) {after : Fault} → unless rule number place after ≡ sound → (rule ≡ true) × (after ≡ sound)
unless_none true number place e = (refl, e)
unless_none false number place e = let z : ◌≡◌ {A = ℕ} 0 1 = cc in absurd (omega arith)

-- no fault in the first of two looks that finds one is none in either
pub first_both : (a b : Fault) → first_of a b ≡ sound → (a ≡ sound) × (b ≡ sound)
first_both sound b e = (refl, e)
first_both (fault number place) b e = let z : ◌≡◌ {A = ℕ} 0 1 = cc in absurd (omega arith)

-- no fault among several is none at each
pub first_none : (look : ℕ → Fault) (from count at : ℕ) → first_among look from count ≡ sound → from ≤ at → at < from + count → look at ≡ sound
unfolding first_among
first_none look from zero at e low high = absurd (omega arith)
first_none look from (suc count) at e low high = go (look from) refl e (ℕ_discrete at from) (λ r. first_none look (suc from) count at r)
  where
    go : (found : Fault) → look from ≡ found → first_of found (first_among look (suc from) count) ≡ sound → Dec (at ≡ from)
        → (first_among look (suc from) count ≡ sound → suc from ≤ at → at < suc from + count → look at ≡ sound) → look at ≡ sound
    go sound is r (yes same) on = rw same is
    go sound is r (no other) on = on r (omega arith) (omega arith)
    go (fault number place) is r d on = absurd (never r)
      where
        never : fault number place ≡ sound → ⊥
        never h = let z : ◌≡◌ {A = ℕ} 0 1 = cc in omega arith

-- one result only: what a look says tells what it found, so a promise that says it allows one
pub fault_said_lem : (a b : Result (Unit {0}) Refusal) → fault_said a ≡ fault_said b → a ≡ b
fault_said_lem (Ok one) (Ok other) e = refl
fault_said_lem (Err one) (Err other) e =
    let number : number_of one.reason ≡ number_of other.reason = cc in
    let place : one.place ≡ other.place = cc in ap (λ (r : Refusal). Err r) (refusal_same one other number place)
fault_said_lem (Ok nothing) (Err refusal) e = let z : ◌≡◌ {A = ℕ} 0 1 = cc in absurd (omega arith)
fault_said_lem (Err refusal) (Ok nothing) e = let z : ◌≡◌ {A = ℕ} 0 1 = cc in absurd (omega arith)
