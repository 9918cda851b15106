-- `line` prints the hops and the colon, then person by person: those from an index on are still to come.
use native.Mathlib.Omega.{arith}
use lib.ListN.{length-set}
use Rattle.text.proofs.Spelling.{number_length}
use Rattle.text.proofs.Lining.{person_small, lining_room, lining_turn, line_done}
use Rattle.text.proofs.line.Goals as goal

pub number-next-requires : goal.number-next-requires
number-next-requires c =
    simp length-set (omega (arith, number_length _ c.type_inv.person.fits, lining_room c.loop-person.invariant c.loop-person-test.true))

pub loop-person-preserved : goal.loop-person-preserved
loop-person-preserved c =
    lining_turn c.loop-person.invariant c.loop-person-test.true (person_small _ _ _ c.type_inv.cells c.loop-person-test.true) c.number-next.ensures

pub returns : goal.returns
returns c = line_done c.requires.0 c.digit.ensures c.loop-person.invariant c.loop-person-test.false
