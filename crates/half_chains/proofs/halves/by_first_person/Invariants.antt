-- What was handed over is what begins with a person before p, and the index says how much that is.
use Rattle.half_chains.proofs.Shelving.{Noting}
use Rattle.half_chains.proofs.halves.by_first_person.Given as goal

abbrev pub invariant-loop-p : goal.invariant-loop-p
invariant-loop-p l = Noting l.tracing l.initial.marks l.initial.index l.initial.working l.persons l.hops l.initial.got l.marks l.index l.working l.got l.p
