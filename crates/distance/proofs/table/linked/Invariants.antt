-- `linked` goes down from the last person. The loop's invariant: nobody from this one on has a link.
use Rattle.compact.specs.Compact.{graph_of}
use Rattle.distance.specs.Inside.{NobodyBehind}
use Rattle.distance.proofs.table.linked.Given as goal

abbrev pub invariant-loop-person : goal.invariant-loop-person
invariant-loop-person l = NobodyBehind (graph_of l.graph.starts.now l.graph.targets.now) l.person
