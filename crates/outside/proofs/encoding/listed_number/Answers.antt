-- `listed_number` meets its contract: the count and the refusal numbers are small enough for their places in 64 bits.
use mathlib.Core.Path.{sym, ap, subst, ◌∙◌}
use native.Mathlib.Omega.{arith}
use Rattle.refusals.specs.Answers.{answer_said, Told}
use Rattle.outside.specs.Encoded.{Small, listed_number}
use Rattle.outside.proofs.Numbered.{ended_byte, ended_few}
use Rattle.outside.proofs.encoding.listed_number.Goals as goal

pub overflow_mul-result : goal.overflow_mul-result
overflow_mul-result c = rw (c.from.ensures, ended_byte c.in-Ok.listed.ended) (omega (arith, ended_few c.in-Ok.listed.ended))

pub overflow_add-result : goal.overflow_add-result
overflow_add-result c = rw (c.from.ensures, ended_byte c.in-Ok.listed.ended) (omega (arith, ended_few c.in-Ok.listed.ended, subst (λ (a : Told). Small (answer_said a)) c.in-Ok.is c.requires))

pub returns-in-Ok : goal.returns-in-Ok
returns-in-Ok c = rw (c.from.ensures, ended_byte c.in-Ok.listed.ended) (sym (ap (λ (a : Told). listed_number (answer_said a)) c.in-Ok.is))

pub returns-in-Err : goal.returns-in-Err
returns-in-Err c = c.refusal_number.ensures ∙ sym (ap (λ (a : Told). listed_number (answer_said a)) c.in-Err.is)
