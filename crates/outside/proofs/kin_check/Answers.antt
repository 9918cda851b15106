-- `kin_check` meets its contract: the counts and the refusal numbers are small enough for their places in 64 bits.
use mathlib.Core.Path.{sym, ap, ◌∙◌}
use native.Mathlib.Omega.{arith}
use Rattle.checking.specs.Answers.{verdict_said}
use Rattle.checking.proofs.Passed.{passed_said, passed_fits}
use Rattle.outside.specs.Encoded.{verdict_number}
use Rattle.outside.proofs.kin_check.Goals as goal

pub overflow_mul-result : goal.overflow_mul-result
overflow_mul-result c = omega (arith, passed_fits (passed_said c.check.ensures c.in-Ok.is))

pub overflow_add-result : goal.overflow_add-result
overflow_add-result c = omega (arith, passed_fits (passed_said c.check.ensures c.in-Ok.is))

pub overflow_mul-result-in-Ok : goal.overflow_mul-result-in-Ok
overflow_mul-result-in-Ok c = omega (arith, passed_fits (passed_said c.check.ensures c.in-Ok.is))

pub overflow_add-result-in-Ok : goal.overflow_add-result-in-Ok
overflow_add-result-in-Ok c = omega (arith, passed_fits (passed_said c.check.ensures c.in-Ok.is))

pub returns-in-Ok : goal.returns-in-Ok
returns-in-Ok c = ap verdict_number (sym (ap verdict_said c.in-Ok.is) ∙ c.check.ensures)

pub returns-in-Err : goal.returns-in-Err
returns-in-Err c = c.refusal_number.ensures ∙ ap verdict_number (sym (ap verdict_said c.in-Err.is) ∙ c.check.ensures)
