-- `spell` meets its contract: what stands before the last digit is a smaller number.
use Rattle.std.proofs.Common.{arith}
use Rattle.text.proofs.Spelling.{one_digit, one_long, last_digit, last_room, rest_room}
use Rattle.text.proofs.numbers.+spell.Goals as goal

pub bounds-out-at : goal.bounds-out-at
bounds-out-at t c = omega (arith, one_long c.args.n c.if-n-lt10.true)

pub returns-then-n-lt10 : goal.returns-then-n-lt10
returns-then-n-lt10 t c = one_digit c.if-n-lt10.true c.digit.ensures

pub spell-last-requires : goal.spell-last-requires
spell-last-requires t c =
    (omega (arith, c.decreases), omega (arith, rest_room c.args.n c.if-n-lt10.false, c.requires))

pub bounds-out-last : goal.bounds-out-last
bounds-out-last t c = last_room c.if-n-lt10.false c.requires c.spell-last.ensures

pub overflow_add-result-2 : goal.overflow_add-result-2
overflow_add-result-2 t c = omega (arith, last_room c.if-n-lt10.false c.requires c.spell-last.ensures)

pub returns : goal.returns
returns t c = last_digit c.if-n-lt10.false c.spell-last.ensures c.digit-2.ensures
