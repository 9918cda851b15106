-- The right halves that start here, one after the other: what was handed over, with those still to come, is all.
use mathlib.Core.Path.{◌≡◌}
use mathlib.Core.Bool.{false}
use Rattle.traces.proofs.Steps.{Pairing}
use Rattle.traces.proofs.pairs.arrive.Given as goal

abbrev pub invariant-loop-half : goal.invariant-loop-half
invariant-loop-half l = Pairing l.tracing l.marks l.initial.out l.trace l.half-end l.initial.got l.out l.half l.got × (l.got.more ≡ false)
