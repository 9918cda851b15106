-- `append` meets its contract. The loop's invariant: what is written, and what the links still to come add, are together what the row adds.
use Rattle.question.proofs.Growing.{Appending}
use Rattle.question.proofs.filling.append.Given as goal

abbrev pub invariant-loop-number : goal.invariant-loop-number
invariant-loop-number l = Appending l.file.bytes.now l.question l.person l.start l.stop l.initial.targets l.number l.end l.targets
