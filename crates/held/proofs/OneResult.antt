-- One result only: any two results that the promise allows are equal, the answer, the held listing at exit and every output cell.
use Rattle.refusals.specs.Answers.{Told}
use mathlib.Core.Path.{◌≡◌, sym, ◌∙◌}
use mathlib.Core.List.{List}
use Prim.Native.Nat.{ℕ}
use Rattle.listing.proofs.OneResult.{portion_one}
use Rattle.held.specs.declared.Held.{Held}
use Rattle.held.specs.Holding.{MovedOn}

pub held_one : {file : List ℕ} {held next other : Held} {out exit end : List ℕ} {a b : Told}
    → MovedOn file held next out exit a → MovedOn file held other out end b → (a ≡ b) × (next ≡ other) × (exit ≡ end)
held_one m n = let one = portion_one m.portioned n.portioned in (one.0, m.keeps ∙ sym n.keeps, one.1)
