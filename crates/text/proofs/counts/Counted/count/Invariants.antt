-- `count` prints from the first digit that is no zero down: those that the loop has left are still to come.
use Rattle.std.proofs.Common.{◌+◌}
use Rattle.text.proofs.Counting.{Counting}
use Rattle.text.proofs.counts.Counted.count.Given as goal

abbrev pub invariant-loop-place : goal.invariant-loop-place
invariant-loop-place l = Counting l.fn.self.digits l.initial.out l.at (l.first + 1) l.place-iterator.iter.iter.rest.now l.out (l.at + l.place-iterator.count)
