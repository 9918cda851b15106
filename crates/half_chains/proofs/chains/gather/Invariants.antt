-- What was handed over is the chains of fewer hops, shorter first.
use Rattle.half_chains.proofs.Shelving.{Gathering}
use Rattle.half_chains.proofs.chains.gather.Given as goal

abbrev pub invariant-loop-length : goal.invariant-loop-length
invariant-loop-length l = Gathering l.graph l.halves l.index l.initial.out l.sought l.marks l.out l.got l.length
