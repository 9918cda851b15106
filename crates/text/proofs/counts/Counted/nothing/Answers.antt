-- `nothing` meets its contract: forty zeros are digits, and worth nothing.
use Rattle.text.proofs.Counting.{none_counted, none_worth}
use Rattle.text.proofs.counts.Counted.nothing.Goals as goal

pub invariant_of-result : goal.invariant_of-result
invariant_of-result c = record { all_digits = none_counted }

pub returns : goal.returns
returns c = none_worth
