-- `held_of` meets its contract: the numbers are read one by one, and the record behind them.
use Rattle.outside.proofs.HeldCells.{record_all}
use Rattle.outside.proofs.held_cells.held_of.Goals as goal

pub returns : goal.returns
returns c =
    rw (c.asking-question.ensures, c.undated_in.ensures, c.record_at.ensures, record_all c.args.lent.now c.requires)
