-- `lines` prints a line at a time, while there is room for the longest.
use native.Mathlib.Omega.{arith}
use Rattle.text.proofs.Lining.{reach_starts, reach_bytes, reach_turn}
use Rattle.text.proofs.lines.Goals as goal

pub loop-next-init : goal.loop-next-init
loop-next-init c = reach_starts c.requires.1

pub loop-next-preserved : goal.loop-next-preserved
loop-next-preserved c =
    reach_turn c.loop-next.invariant c.loop-next-test.true (omega (arith, c.if-out-bytes-lt-LONGEST_LINE.false, reach_bytes c.loop-next.invariant, c.loop-next.invariant.within)) c.line-bytes.ensures.0 c.line-bytes.ensures.1
