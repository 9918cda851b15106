-- `feeds_fault` meets its contract. The loop's invariant says what is still to be looked at.
use mathlib.Core.Path.{sym}
use native.Mathlib.Omega.{arith}
use Rattle.std.proofs.lemmas.Result.{err_from_is_err_and}
use Rattle.format.specs.Format.{feed_count}
use Rattle.checking.specs.Checked.{feed_fault}
use Rattle.refusals.proofs.Faults.{look_starts, look_on, look_stops, look_ends}
use Rattle.checking.proofs.feeds.feeds_fault.Goals as goal

pub loop-number-init : goal.loop-number-init
loop-number-init c = look_starts (feed_fault c.args.file.bytes.now) 0 (feed_count c.args.file.bytes.now) (omega arith)

pub returns-in_err-feed_fault : goal.returns-in_err-feed_fault
returns-in_err-feed_fault c =
    let p = err_from_is_err_and c.from_residual.result c.from_residual.ensures.1 in
    rw (p.1, p.2) (look_stops c.loop-number.invariant c.loop-number-test.true (sym c.in_err-feed_fault.ensures))

pub loop-number-preserved : goal.loop-number-preserved
loop-number-preserved c = look_on c.loop-number.invariant c.loop-number-test.true (sym c.in_ok-feed_fault.ensures)

pub returns : goal.returns
returns c = look_ends c.loop-number.invariant c.loop-number-test.false
