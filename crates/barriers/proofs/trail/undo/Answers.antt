-- `undo` goes down the trail.
use Rattle.barriers.proofs.Unwinding.{undo_turn, undo_end}
use Rattle.barriers.proofs.trail.undo.Goals as goal

pub loop-n-preserved : goal.loop-n-preserved
loop-n-preserved c = undo_turn c.loop-n.invariant c.loop-n-test.true c.restore.ensures

pub returns : goal.returns
returns c = undo_end c.loop-n.invariant c.loop-n-test.false
