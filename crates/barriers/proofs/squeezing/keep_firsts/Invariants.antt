-- `keep_firsts` goes up the stretch once.
use Rattle.barriers.proofs.Firsts.{Keeping}
use Rattle.barriers.proofs.squeezing.keep_firsts.Given as goal

abbrev pub invariant-loop-i : goal.invariant-loop-i
invariant-loop-i l = Keeping l.initial.barriers l.initial.trail l.low l.high l.barriers l.trail l.n l.i
