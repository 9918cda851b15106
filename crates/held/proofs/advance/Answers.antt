-- `advance` meets its contract: what is stored is what the portion's promise keeps.
use mathlib.Core.Path.{sym, subst, ◌∙◌}
use mathlib.Core.List.{List}
use Prim.Native.Nat.{ℕ}
use Rattle.std.specs.Prelude.{Option}
use Rattle.held.specs.Holding.{MovedOn}
use Rattle.held.proofs.Telling.{keeping, moved_on}
use Rattle.held.proofs.advance.Goals as goal

pub returns-in-Some : goal.returns-in-Some
returns-in-Some c =
    subst (λ (kept : Option (List ℕ)). MovedOn c.args.file.now c.args.held.now (keeping c.args.held.now kept) c.args.out.now c.portion-answer.new.out c.portion-answer.result)
    (sym c.last_record.ensures ∙ c.in-Some.is)
    (moved_on c.args.file.now c.args.held.now (rw c.start-start.ensures at c.portion-answer.ensures))
