-- `distances` meets its contract. The loop's invariant: the rounds so far have settled everybody of at most so many hops.
use Rattle.distance.proofs.Settled.{Rounds}
use Rattle.distance.proofs.table.distances.Given as goal

abbrev pub invariant-loop-hops : goal.invariant-loop-hops
invariant-loop-hops l = Rounds l.graph.starts.now l.graph.targets.now l.to l.most l.hops l.cells
