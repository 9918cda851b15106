-- `look_ahead` meets its contract: the laws say what is still to be printed in each case.
use mathlib.Core.Path.{sym, ap, ◌∙◌}
use Rattle.chains.specs.Program.{input_said}
use Rattle.chains.proofs.Looking.{look_on, look_answered}
use Rattle.chains.proofs.ahead.look_ahead.Goals as goal

pub go_on-answer-requires : goal.go_on-answer-requires
go_on-answer-requires c =
    look_on c.args.input.now c.args.cells.now c.args.progress c.in-Portion.is (sym (ap input_said c.in-Ok.is) ∙ c.heard.ensures) c.requires

pub returns-in-Ok : goal.returns-in-Ok
returns-in-Ok c =
    look_answered c.args.input.now c.args.cells.now c.args.progress c.in-Portion.is (sym (ap input_said c.in-Ok.is) ∙ c.heard.ensures) c.go_on-answer.result c.go_on-answer.ensures c.from-left.ensures
