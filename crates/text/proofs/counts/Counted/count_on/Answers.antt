-- `count_on` goes from the last digit up: the digits passed are done, and the carry still goes to the others.
use borrow.Author.Rules.{rules}
use Rattle.text.proofs.Counting.{on_starts, on_turn, on_ends}
use Rattle.text.proofs.counts.Counted.count_on.Goals as goal

pub loop-digit-init : goal.loop-digit-init
loop-digit-init c = on_starts c.args.self.now.all_digits (search rules)

pub loop-digit-preserved : goal.loop-digit-preserved
loop-digit-preserved c = on_turn c.loop-digit.invariant c.loop-digit-test.true

pub invariant_of-self : goal.invariant_of-self
invariant_of-self c = record { all_digits = c.loop-digit.invariant.digits }

pub returns : goal.returns
returns c = on_ends c.loop-digit.invariant c.loop-digit-test.false c.requires
