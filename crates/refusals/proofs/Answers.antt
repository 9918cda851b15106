-- What an answer tells: which case of a promise holds, and that it is the only one.
use mathlib.Core.Path.{◌≡◌, refl, ap, ◌∙◌}
use mathlib.Core.Bool.{Bool, true}
use mathlib.Core.List.{List}
use Prim.Native.Nat.{ℕ}
use native.Mathlib.Omega.{arith}
use Rattle.refusals.specs.Reasons.{number_of}
use Rattle.refusals.specs.Faults.{Fault, sound, fault, Numbered}
use Rattle.refusals.proofs.Numbered.{all_pass}
use Rattle.refusals.specs.Answers.{listed, refused, Told, answer_said, answer_for}
use Rattle.std.specs.Prelude.{Ok, Err}
use Rattle.refusals.specs.declared.Listed.{Listed}
use Rattle.refusals.specs.declared.Refusal.{Refusal}
use Rattle.refusals.proofs.Reasons.{refusal_same, has_reason, refusal_there}

-- what a listing says tells which it is
listed_same : (a b : Listed) → a.count ≡ b.count → a.ended ≡ b.ended → a ≡ b
listed_same a b c e = ap (λ (n : ℕ). record { count = n; ended = a.ended }) c ∙ ap (λ (x : Bool). record { count = b.count; ended = x }) e

-- what an answer says tells which answer it is
pub answer_said_lem : (a b : Told) → answer_said a ≡ answer_said b → a ≡ b
answer_said_lem (Ok one) (Ok other) e =
    let count : one.count ≡ other.count = cc in
    let ended : one.ended ≡ other.ended = cc in ap (λ (t : Listed). Ok t) (listed_same one other count ended)
answer_said_lem (Err one) (Err other) e =
    let number : number_of one.reason ≡ number_of other.reason = cc in
    let place : one.place ≡ other.place = cc in ap (λ (r : Refusal). Err r) (refusal_same one other number place)
answer_said_lem (Ok told) (Err refusal) e = let z : ◌≡◌ {A = ℕ} 0 1 = cc in absurd (omega arith)
answer_said_lem (Err refusal) (Ok told) e = let z : ◌≡◌ {A = ℕ} 0 1 = cc in absurd (omega arith)

-- where it lists there was no fault, and it says how many and whether that was all
pub answer_listed : (f : Fault) {n count : ℕ} {all ended : Bool} → listed count ended ≡ answer_for f n all → (f ≡ sound) × (count ≡ n) × (ended ≡ all)
answer_listed sound e = (refl, cc, cc)
answer_listed (fault number place) e = let z : ◌≡◌ {A = ℕ} 0 1 = cc in absurd (omega arith)

-- where it refuses that is the first fault
pub answer_refused : (f : Fault) (n : ℕ) (all : Bool) {number place : ℕ} → refused number place ≡ answer_for f n all → f ≡ fault number place
answer_refused sound n all e = let z : ◌≡◌ {A = ℕ} 0 1 = cc in absurd (omega arith)
answer_refused (fault m o) n all e = cc

-- with these numbers and no other, the answer where this is the first fault can be said
pub answer_there : (numbers : List ℕ) → all_pass has_reason numbers ≡ true → (f : Fault) → Numbered numbers f → (count : ℕ) (ended : Bool) → (answer : Told) × (answer_said answer ≡ answer_for f count ended)
answer_there numbers h sound n count ended = (Ok (record { count = count; ended = ended }), refl)
answer_there numbers h (fault number place) n count ended = let r = refusal_there numbers h n in (Err r.0, rw (r.1, r.2) refl)
