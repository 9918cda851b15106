-- `undo` goes down the trail.
use Rattle.barriers.proofs.Unwinding.{Undoing}
use Rattle.barriers.proofs.trail.undo.Given as goal

abbrev pub invariant-loop-n : goal.invariant-loop-n
invariant-loop-n l = Undoing l.initial.barriers l.trail l.low l.high l.barriers l.n
