-- `kin_fewest` meets its contract: the refusal numbers are small enough for their place in 64 bits.
use mathlib.Core.Path.{sym, ap, ◌∙◌}
use Rattle.distance.specs.Answers.{hops_said}
use Rattle.outside.specs.Encoded.{hops_number}
use Rattle.outside.proofs.kin_fewest.Goals as goal

pub returns-in-Ok : goal.returns-in-Ok
returns-in-Ok c = rw (← c.asking-question.ensures) (c.from.ensures ∙ ap hops_number (sym (ap hops_said c.in-Ok.is) ∙ c.fewest.ensures))

pub returns-in-Err : goal.returns-in-Err
returns-in-Err c = rw (← c.asking-question.ensures) (c.refusal_number.ensures ∙ ap hops_number (sym (ap hops_said c.in-Err.is) ∙ c.fewest.ensures))
