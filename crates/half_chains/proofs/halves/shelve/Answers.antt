-- What was handed over is the half chains of fewer hops, and the index says before whose how many stand.
use mathlib.Core.Logic.{inl, inr}
use mathlib.Core.Path.{refl}
use native.Mathlib.Omega.{arith}
use Rattle.half_chains.proofs.Shelving.{shelve_start, shelve_turn, shelve_end}
use Rattle.half_chains.proofs.halves.shelve.Goals as goal

pub loop-hops-init : goal.loop-hops-init
loop-hops-init c = shelve_start c.requires refl refl c.begin-got.ensures c.begin-got.auto.working

pub loop-hops-preserved : goal.loop-hops-preserved
loop-hops-preserved c =
    let row = c.by_first_person-got in
    shelve_turn c.loop-hops.invariant c.loop-hops-test.true c.if-got.false row.ensures row.auto.index row.auto.working

pub returns : goal.returns
returns c = shelve_end refl refl c.begin-got.ensures c.loop-hops.invariant (inl (omega (arith, c.loop-hops.invariant.at, c.loop-hops-test.false)))

pub returns-then-got : goal.returns-then-got
returns-then-got c = shelve_end refl refl c.begin-got.ensures c.loop-hops.invariant (inr c.if-got.true)

pub returns-else-got : goal.returns-else-got
returns-else-got c =
    let row = c.by_first_person-got in
    shelve_end refl refl c.begin-got.ensures (shelve_turn c.loop-hops.invariant c.loop-hops-test.true c.if-got.false row.ensures row.auto.index row.auto.working) (inl (omega (arith, c.loop-hops.invariant.at)))
