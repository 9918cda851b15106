-- The recursion meets its contract: one law for each goal that is not plain arithmetic.
use mathlib.Core.Logic.{inl, inr}
use native.Mathlib.Omega.{arith}
use Rattle.traces.proofs.Steps.{extend_arrived, extend_start, extend_person, extend_ready, extend_skip, extend_turn, extend_end}
use Rattle.traces.proofs.extend.+extend.Goals as goal
use Rattle.traces.proofs.extend.+extend.Goals.{then-not-marks-v+else-got, else-not-marks-v}

pub returns-then-trace-eq0 : goal.returns-then-trace-eq0
returns-then-trace-eq0 t c = extend_arrived c.requires c.if-trace-eq0.true c.arrive.ensures

pub loop-next-init : goal.loop-next-init
loop-next-init t c = (extend_start c.requires c.if-trace-eq0.false c.next-next-items.ensures, c.requires.none)

pub bounds-marks-v : goal.bounds-marks-v
bounds-marks-v t c = extend_person c.loop-next.invariant.0 c.loop-next-test.true

pub bounds-marks-v-then-not-marks-v : goal.bounds-marks-v-then-not-marks-v
bounds-marks-v-then-not-marks-v t c = extend_person c.loop-next.invariant.0 c.loop-next-test.true

pub extend-got-requires : goal.extend-got-requires
extend-got-requires t c =
    (omega (arith, c.decreases, c.loop-next.invariant.0.some), extend_ready c.loop-next.invariant.0 c.loop-next-test.true c.loop-next.invariant.1)

pub bounds-marks-v-then-not-marks-v-2 : goal.bounds-marks-v-then-not-marks-v-2
bounds-marks-v-then-not-marks-v-2 t c = extend_person c.loop-next.invariant.0 c.loop-next-test.true

pub loop-next-preserved : goal.loop-next-preserved
loop-next-preserved t c =
    elim c.if-not-marks-v.branch [
      | then-not-marks-v+else-got w ↦ rw (w.marks-is, w.out-is, w.got-is) (extend_turn c.loop-next.invariant.0 c.loop-next-test.true w.if-not-marks-v.true w.extend-got.ensures w.extend-got.auto.out, w.if-got.false)
      | else-not-marks-v w ↦ rw (w.marks-is, w.out-is, w.got-is) (extend_skip c.loop-next.invariant.0 c.loop-next-test.true w.if-not-marks-v.false, c.loop-next.invariant.1)
    ]

pub returns-after-loop-next : goal.returns-after-loop-next
returns-after-loop-next t c = extend_end c.loop-next.invariant.0 (inl c.loop-next-test.false)

pub returns-then-got : goal.returns-then-got
returns-then-got t c =
    extend_end (extend_turn c.loop-next.invariant.0 c.loop-next-test.true c.if-not-marks-v.true c.extend-got.ensures c.extend-got.auto.out) (inr c.if-got.true)
