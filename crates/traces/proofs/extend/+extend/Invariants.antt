-- What falls is the hops still to go.
use mathlib.Core.Path.{◌≡◌}
use mathlib.Core.Bool.{false}
use Rattle.traces.proofs.Steps.{Turning}
use Rattle.traces.proofs.extend.+extend.Given as goal

abbrev pub decreases-extend : goal.decreases-extend
decreases-extend l = l.trace.left

abbrev pub invariant-loop-next : goal.invariant-loop-next
invariant-loop-next l = Turning l.tracing l.initial.marks l.initial.out l.trace l.next-items l.initial.got l.marks l.out l.next-index l.got × (l.got.more ≡ false)
