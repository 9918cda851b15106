-- As many persons as were gone through are pasted.
use mathlib.Core.Path.{◌≡◌}
use lib.Seq.{paste}
use Rattle.traces.proofs.records.put_behind.Given as goal

abbrev pub invariant-loop-i : goal.invariant-loop-i
invariant-loop-i l = l.out ≡ paste l.initial.out l.at l.behind l.i
