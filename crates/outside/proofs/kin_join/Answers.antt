-- `kin_join` meets its contract: the join's answer has room in 64 bits.
use native.Mathlib.Omega.{arith}
use Rattle.outside.proofs.Numbered.{join_small}
use Rattle.outside.proofs.kin_join.Goals as goal

pub listed_number-requires : goal.listed_number-requires
listed_number-requires c =
    join_small _ _ c.join.ensures (omega (arith, c.type_inv))

pub returns : goal.returns
returns c =
    let at_join = c.join in
    rw (← c.asking-question.ensures)
    (record { answer = at_join.result; joins = at_join.ensures; small = join_small _ _ at_join.ensures (omega (arith, c.type_inv)); answers = c.listed_number.ensures })
