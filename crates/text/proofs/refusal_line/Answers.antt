-- `refusal_line` prints its parts one behind the other.
use native.Mathlib.Omega.{arith}
use Rattle.text.proofs.Printing.{printed-length}
use Rattle.text.proofs.Spelling.{number_length}
use Rattle.text.proofs.Lining.{refusal_done}
use Rattle.text.proofs.refusal_line.Goals as goal

pub number-next-requires : goal.number-next-requires
number-next-requires c =
    omega (arith, number_length _ c.ranges.number.fits, c.put-next.ensures.place, printed-length c.put-next.ensures, c.requires)

pub put-next-requires-2 : goal.put-next-requires-2
put-next-requires-2 c =
    omega (arith, number_length _ c.ranges.number.fits, c.put-next.ensures.place, printed-length c.put-next.ensures, c.number-next.ensures.place, printed-length c.number-next.ensures, c.requires)

pub number-next-requires-2 : goal.number-next-requires-2
number-next-requires-2 c =
    omega (arith, number_length _ c.ranges.number.fits, number_length _ c.ranges.place.fits, c.put-next.ensures.place, printed-length c.put-next.ensures, c.number-next.ensures.place, printed-length c.number-next.ensures, c.put-next-2.ensures.place, printed-length c.put-next-2.ensures, c.requires)

pub bounds-out-next : goal.bounds-out-next
bounds-out-next c =
    omega (arith, number_length _ c.ranges.number.fits, number_length _ c.ranges.place.fits, c.put-next.ensures.place, printed-length c.put-next.ensures, c.number-next.ensures.place, printed-length c.number-next.ensures, c.put-next-2.ensures.place, printed-length c.put-next-2.ensures, c.number-next-2.ensures.place, printed-length c.number-next-2.ensures, c.requires)

pub overflow_add-result : goal.overflow_add-result
overflow_add-result c =
    omega (arith, number_length _ c.ranges.number.fits, number_length _ c.ranges.place.fits, c.put-next.ensures.place, c.number-next.ensures.place, c.put-next-2.ensures.place, c.number-next-2.ensures.place)

pub returns : goal.returns
returns c =
    (refusal_done c.args.number c.args.place c.put-next.ensures c.number-next.ensures c.put-next-2.ensures c.number-next-2.ensures, omega (arith, number_length _ c.ranges.number.fits, number_length _ c.ranges.place.fits, c.put-next.ensures.place, c.number-next.ensures.place, c.put-next-2.ensures.place, c.number-next-2.ensures.place))
