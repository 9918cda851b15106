-- One result only: any two results that the promise of a portion allows are equal, the answer and every output cell.
use mathlib.Core.Path.{◌≡◌, sym, ◌∙◌}
use mathlib.Core.List.{List}
use Prim.Native.Nat.{ℕ}
use Rattle.refusals.specs.Answers.{Told}
use Rattle.refusals.specs.Faults.{Fault}
use Rattle.refusals.proofs.Answers.{answer_said_lem}
use Rattle.listing.specs.Portions.{Start}
use Rattle.listing.specs.Answers.{PortionOf}

pub portion_one : {first : Fault} {chains : List (List ℕ)} {start : Start} {out exit other : List ℕ} {a b : Told}
    → PortionOf first chains start out exit a → PortionOf first chains start out other b → (a ≡ b) × (exit ≡ other)
portion_one {a = a} {b} p r = (answer_said_lem a b (p.answers ∙ sym r.answers), p.cells ∙ sym r.cells)
