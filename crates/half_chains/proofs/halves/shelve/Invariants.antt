-- What was handed over is the half chains of fewer hops, and the index says before whose how many stand.
use Rattle.half_chains.proofs.Shelving.{Shelving}
use Rattle.half_chains.proofs.halves.shelve.Given as goal

abbrev pub invariant-loop-hops : goal.invariant-loop-hops
invariant-loop-hops l = Shelving l.tracing l.initial.marks l.initial.index l.initial.working l.fn.sought l.initial.got l.marks l.index l.working l.got l.hops
