-- `print` ends: what is still to be printed grows shorter with each piece.
use Prim.Native.Nat.{◌≤◌}
use lib.ListN.{length}
use Rattle.text.specs.Printed.{longest_line}
use Rattle.chains.specs.Pieces.{Standing, to_print}
use Rattle.chains.proofs.print.Given as goal

abbrev pub invariant-loop-piece : goal.invariant-loop-piece
invariant-loop-piece g l = Standing l.input l.cells l.progress × (longest_line ≤ length l.out)

abbrev pub decreases-loop-piece : goal.decreases-loop-piece
decreases-loop-piece g l = length (to_print l.input l.cells l.progress)
