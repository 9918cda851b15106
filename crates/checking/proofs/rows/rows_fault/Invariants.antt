-- `rows_fault` meets its contract. The loop's invariant says what is still to be looked at.
use Prim.Native.Nat.{◌+◌}
use Rattle.format.specs.Format.{person_count}
use Rattle.refusals.specs.Faults.{first_among}
use Rattle.checking.specs.Checked.{row_fault}
use Rattle.refusals.proofs.Faults.{Looking}
use Rattle.checking.proofs.rows.rows_fault.Given as goal

abbrev pub invariant-loop-at : goal.invariant-loop-at
invariant-loop-at l = Looking (row_fault l.file.bytes.now) (first_among (row_fault l.file.bytes.now) 0 (person_count l.file.bytes.now + 1)) l.at l.at-end
