-- `number` meets its contract: one, two and three digits are written out, any other number is spelled.
use native.Mathlib.Omega.{arith}
use lib.ListN.{length-set}
use Rattle.text.proofs.Spelling.{one_digit, two_digits, three_digits, one_long, two_long, three_long}
use Rattle.text.proofs.numbers.number.Goals as goal

pub bounds-out-at : goal.bounds-out-at
bounds-out-at c = omega (arith, one_long c.args.n c.if-n-lt10.true)

pub returns-then-n-lt10 : goal.returns-then-n-lt10
returns-then-n-lt10 c = one_digit c.if-n-lt10.true c.digit.ensures

pub bounds-out-at-then-n-lt100 : goal.bounds-out-at-then-n-lt100
bounds-out-at-then-n-lt100 c = omega (arith, two_long c.args.n c.if-n-lt10.false c.if-n-lt100.true)

pub bounds-out-at-then-n-lt100-2 : goal.bounds-out-at-then-n-lt100-2
bounds-out-at-then-n-lt100-2 c = simp length-set (omega (arith, two_long c.args.n c.if-n-lt10.false c.if-n-lt100.true))

pub returns-then-n-lt100 : goal.returns-then-n-lt100
returns-then-n-lt100 c = two_digits c.if-n-lt10.false c.if-n-lt100.true c.digit-then-n-lt100.ensures c.digit-then-n-lt100-2.ensures

pub bounds-out-at-then-n-lt1000 : goal.bounds-out-at-then-n-lt1000
bounds-out-at-then-n-lt1000 c = omega (arith, three_long c.args.n c.if-n-lt100.false c.if-n-lt1000.true)

pub bounds-out-at-then-n-lt1000-2 : goal.bounds-out-at-then-n-lt1000-2
bounds-out-at-then-n-lt1000-2 c = simp length-set (omega (arith, three_long c.args.n c.if-n-lt100.false c.if-n-lt1000.true))

pub bounds-out-at-then-n-lt1000-3 : goal.bounds-out-at-then-n-lt1000-3
bounds-out-at-then-n-lt1000-3 c = simp length-set (omega (arith, three_long c.args.n c.if-n-lt100.false c.if-n-lt1000.true))

pub returns-then-n-lt1000 : goal.returns-then-n-lt1000
returns-then-n-lt1000 c = three_digits c.if-n-lt100.false c.if-n-lt1000.true c.digit-then-n-lt1000.ensures c.digit-then-n-lt1000-2.ensures c.digit-then-n-lt1000-3.ensures
