-- The cycle meets its contracts: one law for each need that is not plain arithmetic. What falls is twice the hops left, and
-- one more while the links are gone through.
use Prim.Native.Nat.{◌+◌, ◌*◌}
use Rattle.search.proofs.Steps.{Turning}
use Rattle.search.proofs.walk.Walk.+enter_go_through.Given as goal

abbrev pub decreases-enter : goal.decreases-enter
decreases-enter l = 2 * l.stand.left

abbrev pub decreases-go_through : goal.decreases-go_through
decreases-go_through l = 2 * l.stand.left + 1

abbrev pub invariant-go_through-loop-v : goal.invariant-go_through-loop-v
invariant-go_through-loop-v l = Turning l.initial.self l.initial.out l.stand l.tight l.at l.v-items l.self l.out l.v-index
