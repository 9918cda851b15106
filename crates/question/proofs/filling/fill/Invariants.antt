-- `fill` meets its contract. The loop's invariant: the rows of all persons so far are there.
use Rattle.question.proofs.Growing.{Filling}
use Rattle.question.proofs.filling.fill.Given as goal

abbrev pub invariant-loop-person : goal.invariant-loop-person
invariant-loop-person l = Filling l.fn.file l.question l.person l.end l.starts l.targets
