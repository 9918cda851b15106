-- One result only: any two answers that the promise of fewest hops allows are equal.
use mathlib.Core.Path.{◌≡◌, sym, ap, ◌∙◌}
use mathlib.Core.List.{List}
use Prim.Native.Nat.{ℕ}
use native.Mathlib.Omega.{arith}
use Rattle.std.specs.Prelude.{Result, Ok, Err}
use Rattle.refusals.specs.Reasons.{number_of}
use Rattle.refusals.specs.declared.Refusal.{Refusal}
use Rattle.refusals.proofs.Reasons.{refusal_same}
use Rattle.question.specs.declared.Question.{Question}
use Rattle.distance.specs.Answers.{hops_said, FewestHops}

-- what an answer says tells which answer it is
hops_said_lem : (a b : Result ℕ Refusal) → hops_said a ≡ hops_said b → a ≡ b
hops_said_lem (Ok x) (Ok y) e = let same : x ≡ y = cc in ap (λ (h : ℕ). Ok h) same
hops_said_lem (Err x) (Err y) e =
    let number : number_of x.reason ≡ number_of y.reason = cc in
    let place : x.place ≡ y.place = cc in ap (λ (r : Refusal). Err r) (refusal_same x y number place)
hops_said_lem (Ok x) (Err y) e = let z : ◌≡◌ {A = ℕ} 0 1 = cc in absurd (omega arith)
hops_said_lem (Err x) (Ok y) e = let z : ◌≡◌ {A = ℕ} 0 1 = cc in absurd (omega arith)

pub fewest_one : (file : List ℕ) (q : Question) (person : ℕ) {a b : Result ℕ Refusal} → FewestHops file q person a → FewestHops file q person b → a ≡ b
fewest_one file q person {a} {b} one other = hops_said_lem a b (one ∙ sym other)
