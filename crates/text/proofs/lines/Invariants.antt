-- `lines` prints a line at a time, while there is room for the longest.
use Rattle.text.proofs.Lining.{Reaching}
use Rattle.text.proofs.lines.Given as goal

abbrev pub invariant-loop-next : goal.invariant-loop-next
invariant-loop-next l = Reaching l.cells l.first l.count l.initial.out l.out l.next l.bytes
