-- `round` meets its contract. The loop's invariant: the persons so far are settled, the others are as they were.
use native.Mathlib.Omega.{arith}
use Rattle.distance.proofs.Stepping.{stepping_starts, stepping_known, stepping_left, stepping_added, stepping_ends}
use Rattle.distance.proofs.table.round.Goals as goal
use Rattle.distance.proofs.table.round.Goals.{then-cells-person+then-leads, else-cells-person, else-cells-person-via-then-cells-person+else-leads, else-cells-person-via-else-cells-person}

pub loop-person-init : goal.loop-person-init
loop-person-init c = stepping_starts c.told-cells

pub loop-person-preserved : goal.loop-person-preserved
loop-person-preserved c =
    elim c.if-cells-person.branch [
      | then-cells-person+then-leads w ↦ stepping_added c.requires.0 c.loop-person.invariant (omega (arith, c.loop-person-test.true, c.requires.1.most)) w.if-cells-person.true w.leads.ensures w.if-leads.true w.cells-is w.added-is
      | else-cells-person w ↦ elim w.else-cells-person.branch [
        | else-cells-person-via-then-cells-person+else-leads v ↦ stepping_left c.requires.0 c.loop-person.invariant (omega (arith, c.loop-person-test.true, c.requires.1.most)) v.if-cells-person.true v.leads.ensures v.if-leads.false w.cells-is w.added-is
        | else-cells-person-via-else-cells-person v ↦ stepping_known c.requires.0 c.loop-person.invariant (omega (arith, c.loop-person-test.true, c.requires.1.most)) v.if-cells-person.false w.cells-is w.added-is
      ]
    ]

pub returns : goal.returns
returns c = stepping_ends c.requires.0 c.loop-person.invariant c.requires.1 c.loop-person-test.false
