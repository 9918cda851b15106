-- `keep_firsts` goes up the stretch once.
use Rattle.barriers.proofs.Firsts.{keep-first, keep_again}
use Rattle.barriers.proofs.squeezing.keep_firsts.Goals as goal
use Rattle.barriers.proofs.squeezing.keep_firsts.Goals.{then-is_first, else-is_first}

pub loop-i-preserved : goal.loop-i-preserved
loop-i-preserved c =
    let k = c.loop-i.invariant in
    let lt = c.loop-i-test.true in
    elim c.if-is_first.branch [
      | then-is_first w ↦ rw (w.trail-is, w.n-is) (keep-first k lt c.is_first.ensures w.if-is_first.true)
      | else-is_first w ↦ rw (w.trail-is, w.n-is) (keep_again k lt c.is_first.ensures w.if-is_first.false)
    ]
