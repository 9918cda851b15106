-- `is_held` meets its contract: today's form, or the one stored before.
use borrow.Author.Tests.{eq-eqb, ne_eqb}
use Rattle.outside.proofs.held_cells.is_held.Goals as goal

pub returns-then-cells-eq-HELD : goal.returns-then-cells-eq-HELD
returns-then-cells-eq-HELD c = rw (eq-eqb _ _ c.if-cells-eq-HELD.true)

pub returns-else-cells-eq-HELD : goal.returns-else-cells-eq-HELD
returns-else-cells-eq-HELD c = rw (ne_eqb _ _ c.if-cells-eq-HELD.false)
