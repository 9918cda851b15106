-- `end_line` prints its parts one behind the other.
use native.Mathlib.Omega.{arith}
use Rattle.text.proofs.Lining.{end_done}
use Rattle.text.proofs.end_line.Goals as goal

pub returns : goal.returns
returns c =
    let at_count = c.count-last in
    (end_done _ c.put-next.ensures at_count.ensures.0, omega (arith, at_count.ensures.1, c.put-next.ensures.place))
