-- `kin_rings` meets its contract: the rings' answer has room in 64 bits.
use native.Mathlib.Omega.{arith}
use Rattle.question.specs.Asked.{rings_asked_fault}
use Rattle.rings.specs.Rings.{rings_for}
use Rattle.outside.proofs.Numbered.{rings_small, same_asked}
use Rattle.outside.proofs.kin_rings.Goals as goal

pub listed_number-requires : goal.listed_number-requires
listed_number-requires c = rings_small _ _ c.rings.ensures (omega (arith, c.type_inv))

pub returns : goal.returns
returns c =
    rw (← c.start.ensures)
    (same_asked (rings_asked_fault c.args.file.now) (rings_for c.args.file.now) c.asking-question.ensures
    (record { answer = c.rings.result; portioned = c.rings.ensures; small = rings_small _ _ c.rings.ensures (omega (arith, c.type_inv)); answers = c.listed_number.ensures }))
