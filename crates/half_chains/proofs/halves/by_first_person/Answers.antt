-- What was handed over is what begins with a person before p, and the index says how much that is.
use mathlib.Core.Logic.{inl, inr}
use Rattle.half_chains.proofs.Shelving.{note_start, note_turn, note_end}
use Rattle.half_chains.proofs.halves.by_first_person.Goals as goal
use Rattle.half_chains.proofs.halves.by_first_person.Goals.{else-loop-p-test, then-loop-p-test+then-got}

pub loop-p-init : goal.loop-p-init
loop-p-init c = note_start c.requires

pub loop-p-preserved : goal.loop-p-preserved
loop-p-preserved c = note_turn c.loop-p.invariant c.loop-p-test.true c.if-got.false c.begin-got.ensures c.begin-got.auto.working

pub returns : goal.returns
returns c =
    note_end c.loop-p.invariant (elim c.loop-p-test.branch [ else-loop-p-test w ↦ inl w.loop-p-test.false | then-loop-p-test+then-got w ↦ inr w.if-got.true ])
