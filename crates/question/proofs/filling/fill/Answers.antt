-- `fill` meets its contract. The loop's invariant: the rows of all persons so far are there.
use Rattle.checking.proofs.Passed.{sound_rules}
use Rattle.question.proofs.Growing.{filling_adds, filling_ends}
use Rattle.question.proofs.filling.fill.Goals as goal

pub counts-requires : goal.counts-requires
counts-requires c = let p = sound_rules c.args.file.now c.requires.faultless in record { mark = p.marks; counts = p.fits; layout = p.lays }

pub loop-person-preserved : goal.loop-person-preserved
loop-person-preserved c =
    filling_adds c.counts.ensures c.requires.faultless c.loop-person.invariant c.loop-person-test.true c.append-end.auto.targets c.append-end.ensures

pub returns : goal.returns
returns c =
    filling_ends c.counts.ensures c.requires.faultless c.loop-person.invariant c.loop-person-test.false
