-- `undated_in` meets its contract: the eighth number, or 1 where there is none.
use borrow.Author.Tests.{eq-eqb, ne_eqb}
use Rattle.outside.proofs.held_cells.undated_in.Goals as goal

pub returns-then-lent-eq-HELD : goal.returns-then-lent-eq-HELD
returns-then-lent-eq-HELD c = rw (eq-eqb _ _ c.if-lent-eq-HELD.true)

pub returns : goal.returns
returns c = rw (ne_eqb _ _ c.if-lent-eq-HELD.false)
