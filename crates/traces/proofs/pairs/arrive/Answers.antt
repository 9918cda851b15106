-- The right halves that start here, one after the other: what was handed over, with those still to come, is all.
use mathlib.Core.Logic.{inl, inr}
use mathlib.Core.Path.{sym, ◌∙◌}
use native.Mathlib.Nat.{add-sub_cancel_left}
use Rattle.traces.proofs.Steps.{arrive_ended, pair_joined, pair_shared, arrive_end}
use Rattle.traces.proofs.pairs.arrive.Goals as goal
use Rattle.traces.proofs.pairs.arrive.Goals.{then-apart+else-got, else-apart}

pub returns-then-tracing-eq0 : goal.returns-then-tracing-eq0
returns-then-tracing-eq0 c = arrive_ended c.requires c.if-tracing-eq0.true c.end.ensures

pub loop-half-preserved : goal.loop-half-preserved
loop-half-preserved c =
    elim c.if-apart.branch [
      | then-apart+else-got w ↦ rw (w.out-is, w.got-is) (pair_joined c.loop-half.invariant.0 c.loop-half-test.true (sym w.if-apart.true ∙ rw (add-sub_cancel_left) at c.apart.ensures) (rw (add-sub_cancel_left) at w.hand_over-got.ensures) w.hand_over-got.auto.out, w.if-got.false)
      | else-apart w ↦ rw (w.out-is, w.got-is) (pair_shared c.loop-half.invariant.0 c.loop-half-test.true (sym w.if-apart.false ∙ rw (add-sub_cancel_left) at c.apart.ensures), c.loop-half.invariant.1)
    ]

pub returns-after-loop-half : goal.returns-after-loop-half
returns-after-loop-half c = arrive_end c.loop-half.invariant.0 (inl c.loop-half-test.false)

pub returns-then-got : goal.returns-then-got
returns-then-got c =
    arrive_end (pair_joined c.loop-half.invariant.0 c.loop-half-test.true (sym c.if-apart.true ∙ rw (add-sub_cancel_left) at c.apart.ensures) (rw (add-sub_cancel_left) at c.hand_over-got.ensures) c.hand_over-got.auto.out) (inr c.if-got.true)
