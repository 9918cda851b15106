-- `kin_portion` meets its contract: the portion's answer has room in 64 bits.
use native.Mathlib.Omega.{arith}
use Rattle.question.specs.Asked.{asked_fault}
use Rattle.portion.specs.Listing.{listing_for}
use Rattle.outside.proofs.Numbered.{portion_small, same_asked}
use Rattle.outside.proofs.kin_portion.Goals as goal

pub listed_number-requires : goal.listed_number-requires
listed_number-requires c = portion_small _ _ c.portion.ensures (omega (arith, c.type_inv))

pub returns : goal.returns
returns c =
    rw (← c.start.ensures)
    (same_asked (asked_fault c.args.file.now) (listing_for c.args.file.now) c.asking-question.ensures
    (record { answer = c.portion.result; portioned = c.portion.ensures; small = portion_small _ _ c.portion.ensures (omega (arith, c.type_inv)); answers = c.listed_number.ensures }))
