-- `rows_fault` meets its contract. The loop's invariant says what is still to be looked at.
use mathlib.Core.Path.{sym}
use Prim.Native.Nat.{◌+◌}
use native.Mathlib.Omega.{arith}
use Rattle.std.proofs.lemmas.Result.{err_from_is_err_and}
use Rattle.format.specs.Format.{person_count}
use Rattle.checking.specs.Checked.{row_fault}
use Rattle.refusals.proofs.Faults.{look_starts, look_on, look_stops, look_ends}
use Rattle.checking.proofs.rows.rows_fault.Goals as goal

pub loop-at-init : goal.loop-at-init
loop-at-init c = look_starts (row_fault c.args.file.bytes.now) 0 (person_count c.args.file.bytes.now + 1) (omega arith)

pub returns-in_err-row_fault : goal.returns-in_err-row_fault
returns-in_err-row_fault c =
    let p = err_from_is_err_and c.from_residual.result c.from_residual.ensures.1 in
    rw (p.1, p.2) (look_stops c.loop-at.invariant c.loop-at-test.true (sym c.in_err-row_fault.ensures))

pub loop-at-preserved : goal.loop-at-preserved
loop-at-preserved c = look_on c.loop-at.invariant c.loop-at-test.true (sym c.in_ok-row_fault.ensures)

pub returns : goal.returns
returns c = look_ends c.loop-at.invariant c.loop-at-test.false
