-- One result only: any two answers that a promise allows are equal.
use mathlib.Core.Path.{◌≡◌, sym, ap, ◌∙◌}
use mathlib.Core.List.{List}
use Prim.Native.Nat.{ℕ}
use native.Mathlib.Omega.{arith}
use denote.Ref.{Bor}
use Rattle.checking.specs.Answers.{verdict_said, Checks, Views}
use Rattle.std.specs.Prelude.{Result, Ok, Err}
use Rattle.refusals.specs.Reasons.{number_of}
use Rattle.refusals.specs.declared.Refusal.{Refusal}
use Rattle.refusals.proofs.Reasons.{refusal_same}
use Rattle.format.specs.declared.layout.Counts.{Counts}

-- counts are their three numbers
counts_same : (a b : Counts) → a.persons ≡ b.persons → a.links ≡ b.links → a.feeds ≡ b.feeds → a ≡ b
counts_same a b n m f = rw (n, m, f)

-- what an answer says tells which answer it is
verdict_said_lem : (a b : Result Counts Refusal) → verdict_said a ≡ verdict_said b → a ≡ b
verdict_said_lem (Ok one) (Ok other) e =
    let persons : one.persons ≡ other.persons = cc in
    let links : one.links ≡ other.links = cc in
    let feeds : one.feeds ≡ other.feeds = cc in ap (λ (c : Counts). Ok c) (counts_same one other persons links feeds)
verdict_said_lem (Err one) (Err other) e =
    let number : number_of one.reason ≡ number_of other.reason = cc in
    let place : one.place ≡ other.place = cc in ap (λ (r : Refusal). Err r) (refusal_same one other number place)
verdict_said_lem (Ok counts) (Err refusal) e = let z : ◌≡◌ {A = ℕ} 0 1 = cc in absurd (omega arith)
verdict_said_lem (Err refusal) (Ok counts) e = let z : ◌≡◌ {A = ℕ} 0 1 = cc in absurd (omega arith)

pub check_one : (file : List ℕ) {a b : Result Counts Refusal} → Checks file a → Checks file b → a ≡ b
check_one file {a} {b} p q = verdict_said_lem a b (p ∙ sym q)

-- two row views have the same bytes and lie at the same place of the lent file
pub row_one : {file : Bor (List ℕ)} {person : ℕ} {a b : Bor (List ℕ)} → Views file person a → Views file person b → (a.now ≡ b.now) × (a.ref_ptr ≡ b.ref_ptr)
row_one p q = (p.bytes ∙ sym q.bytes, p.lies ∙ sym q.lies)
