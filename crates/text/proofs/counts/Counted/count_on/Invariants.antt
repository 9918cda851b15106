-- `count_on` goes from the last digit up: the digits passed are done, and the carry still goes to the others.
use Rattle.text.proofs.Counting.{CountingOn}
use Rattle.text.proofs.counts.Counted.count_on.Given as goal

abbrev pub invariant-loop-digit : goal.invariant-loop-digit
invariant-loop-digit l = CountingOn l.fn.self.digits l.more l.digit-items l.carry l.digit-index
