-- `line` prints the hops and the colon, then person by person: those from an index on are still to come.
use Rattle.text.proofs.Lining.{Lining}
use Rattle.text.proofs.line.Given as goal

abbrev pub invariant-loop-person : goal.invariant-loop-person
invariant-loop-person l = Lining l.person-items l.initial.out l.initial.next l.out l.person-index l.next
