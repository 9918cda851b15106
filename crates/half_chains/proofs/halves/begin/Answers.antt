-- The half chains that begin with a person are what may follow that person, who stands before it.
use Rattle.half_chains.proofs.Shelving.{begin_marked, begin_begun}
use Rattle.half_chains.proofs.halves.begin.Goals as goal

pub returns-then-marks-person : goal.returns-then-marks-person
returns-then-marks-person c = begin_marked c.if-marks-person.true

pub returns : goal.returns
returns c = begin_begun c.requires.whole c.if-marks-person.false (rw c.alone-alone.ensures at c.extend-got.ensures)
