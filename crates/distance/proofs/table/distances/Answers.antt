-- `distances` meets its contract. The loop's invariant: the rounds so far have settled everybody of at most so many hops.
use native.Mathlib.Omega.{arith}
use Rattle.distance.proofs.Settled.{rounds_start, rounds_next, rounds_calm, rounds_end}
use Rattle.distance.proofs.table.distances.Goals as goal

pub loop-hops-init : goal.loop-hops-init
loop-hops-init c = rounds_start c.requires

pub returns-then-not-round : goal.returns-then-not-round
returns-then-not-round c =
    rounds_calm c.args.graph.compact c.loop-hops-test.true c.loop-hops.invariant c.round.ensures c.if-not-round.true

pub loop-hops-preserved : goal.loop-hops-preserved
loop-hops-preserved c = rounds_next c.args.graph.compact c.loop-hops-test.true c.loop-hops.invariant c.round.ensures

pub returns : goal.returns
returns c = rounds_end (omega (arith, c.loop-hops-test.false, c.loop-hops.auto.hops-end)) c.loop-hops.invariant
