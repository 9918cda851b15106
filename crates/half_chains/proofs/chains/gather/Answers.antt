-- What was handed over is the chains of fewer hops, shorter first.
use mathlib.Core.Logic.{inl, inr}
use native.Mathlib.Omega.{arith}
use Rattle.half_chains.proofs.Shelving.{gather_start, gather_ready, gather_turn, gather_end}
use Rattle.half_chains.proofs.chains.gather.Goals as goal

pub loop-length-init : goal.loop-length-init
loop-length-init c = gather_start c.requires

pub extend-got-requires : goal.extend-got-requires
extend-got-requires c = rw c.alone-alone.ensures (gather_ready {halves = c.args.halves} {index = c.args.index} c.loop-length.invariant c.loop-length-test.true c.if-got.false)

pub loop-length-preserved : goal.loop-length-preserved
loop-length-preserved c = gather_turn {halves = c.args.halves} {index = c.args.index} c.loop-length.invariant c.loop-length-test.true (rw c.alone-alone.ensures at c.extend-got.ensures) c.extend-got.auto.out

pub returns : goal.returns
returns c = gather_end c.loop-length.invariant (inl (omega (arith, c.loop-length.invariant.at, c.loop-length-test.false)))

pub returns-then-got : goal.returns-then-got
returns-then-got c = gather_end c.loop-length.invariant (inr c.if-got.true)

pub returns-else-got : goal.returns-else-got
returns-else-got c =
    gather_end (gather_turn {halves = c.args.halves} {index = c.args.index} c.loop-length.invariant c.loop-length-test.true (rw c.alone-alone.ensures at c.extend-got.ensures) c.extend-got.auto.out) (inl (omega (arith, c.loop-length.invariant.at)))
