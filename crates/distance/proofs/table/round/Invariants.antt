-- `round` meets its contract. The loop's invariant: the persons so far are settled, the others are as they were.
use Rattle.distance.proofs.Stepping.{Stepping}
use Rattle.distance.proofs.table.round.Given as goal

abbrev pub invariant-loop-person : goal.invariant-loop-person
invariant-loop-person l = Stepping l.graph.starts.now l.graph.targets.now l.initial.cells l.most l.hops l.person l.added l.cells
