-- `feeds_fault` meets its contract. The loop's invariant says what is still to be looked at.
use Rattle.format.specs.Format.{feed_count}
use Rattle.refusals.specs.Faults.{first_among}
use Rattle.checking.specs.Checked.{feed_fault}
use Rattle.refusals.proofs.Faults.{Looking}
use Rattle.checking.proofs.feeds.feeds_fault.Given as goal

abbrev pub invariant-loop-number : goal.invariant-loop-number
invariant-loop-number l = Looking (feed_fault l.file.bytes.now) (first_among (feed_fault l.file.bytes.now) 0 (feed_count l.file.bytes.now)) l.number l.number-end
