-- The cycle meets its contracts: one law for each need that is not plain arithmetic. What falls is twice the hops left, and
-- one more while the links are gone through.
use mathlib.Core.Path.{sym, ◌∙◌}
use native.Mathlib.Omega.{arith}
use Rattle.search.proofs.Steps.{enter_skipped, enter_bookmark, enter_end, enter_marked, enter_barred, enter_last, enter_ready, enter_left, go_start, go_enter, go_turn, go_stop, go_end}
use Rattle.search.proofs.walk.Walk.+enter_go_through.Goals as goal

pub enter-returns-then-is_lt : goal.enter-returns-then-is_lt
enter-returns-then-is_lt t c = enter_skipped c.requires c.beside-side.ensures (sym c.is_lt.ensures ∙ c.if-is_lt.true)

pub enter-returns-then-is_eq : goal.enter-returns-then-is_eq
enter-returns-then-is_eq t c =
    enter_bookmark c.requires c.beside-side.ensures (sym c.is_lt.ensures ∙ c.if-is_lt.false) (sym c.is_eq.ensures ∙ c.if-is_eq.true) c.if-v-self.true

pub enter-returns-then-v-self : goal.enter-returns-then-v-self
enter-returns-then-v-self t c =
    enter_end c.requires c.beside-side.ensures (sym c.is_lt.ensures ∙ c.if-is_lt.false) (sym c.is_eq.ensures ∙ c.if-is_eq.false) c.if-v-self.true c.hand_over.ensures

pub enter-returns-then-self-at : goal.enter-returns-then-self-at
enter-returns-then-self-at t c = enter_marked c.requires c.if-v-self.false c.if-self-at.true

pub enter-returns-then-left-self : goal.enter-returns-then-left-self
enter-returns-then-left-self t c = enter_barred c.requires c.if-v-self.false c.if-self-at.false c.if-left-self.true

pub enter-returns-then-is_gt : goal.enter-returns-then-is_gt
enter-returns-then-is_gt t c =
    enter_last c.requires c.if-v-self.false c.if-self-at.false c.if-left-self.false c.beside-side.ensures (sym c.is_lt.ensures ∙ c.if-is_lt.false) (sym c.is_gt.ensures ∙ c.if-is_gt.true) c.if-left-eq1.true c.hand_over-then-is_gt.ensures

pub enter-go_through-more-requires : goal.enter-go_through-more-requires
enter-go_through-more-requires t c =
    (omega (arith, c.requires.some), rw c.keep.ensures (enter_ready c.requires c.if-v-self.false c.if-self-at.false c.if-left-self.false c.beside-side.ensures))

pub enter-returns : goal.enter-returns
enter-returns t c =
    enter_left c.requires c.if-v-self.false c.if-self-at.false c.if-left-self.false c.beside-side.result (rw c.keep.ensures at c.go_through-more.ensures) c.beside-side.ensures (sym c.is_lt.ensures ∙ c.if-is_lt.false) c.barren-barren.ensures c.settle-self.ensures

pub go_through-loop-v-init : goal.go_through-loop-v-init
go_through-loop-v-init t c = go_start c.requires c.next-v-items.ensures

pub go_through-enter-requires : goal.go_through-enter-requires
go_through-enter-requires t c = (omega arith, go_enter c.loop-v.invariant c.loop-v-test.true)

pub go_through-returns-then-enter : goal.go_through-returns-then-enter
go_through-returns-then-enter t c = go_stop c.loop-v.invariant c.loop-v-test.true c.enter.ensures c.if-enter.true

pub go_through-loop-v-preserved : goal.go_through-loop-v-preserved
go_through-loop-v-preserved t c = go_turn c.loop-v.invariant c.loop-v-test.true c.enter.ensures c.enter.auto.out c.if-enter.false

pub go_through-returns : goal.go_through-returns
go_through-returns t c = go_end c.loop-v.invariant c.loop-v-test.false
