-- `count` prints from the first digit that is no zero down: those that the loop has left are still to come.
use borrow.Author.Rules.{rules}
use native.Mathlib.Omega.{arith}
use Rattle.std.proofs.Common.{◌≡◌, ◌+◌, length, ◌++◌, ◌∷◌, []}
use Rattle.text.proofs.Counting.{count_turn, count_ends, down_all}
use Rattle.text.proofs.counts.Counted.count.Goals as goal

pub loop-place-preserved : goal.loop-place-preserved
loop-place-preserved c =
    let taken : c.loop-place.place-iterator.iter.iter.rest.now ≡ c.next.new.self.iter.iter.rest.now ++ c.in-Some.field-0-1.now ∷ [] = search rules in
    let here : c.in-Some.place ≡ c.loop-place.place-iterator.count = search rules in
    let on : c.next.new.self.count ≡ c.loop-place.place-iterator.count + 1 = search rules in
    let behind : c.args.at + c.next.new.self.count ≡ c.args.at + c.loop-place.place-iterator.count + 1 = omega (arith, on) in
    rw (here, behind) (count_turn c.loop-place.invariant _ _ taken c.digit.ensures)

pub returns : goal.returns
returns c =
    let none : length c.loop-place.place-iterator.iter.iter.rest.now ≡ 0 = search rules in
    let k = c.loop-place.invariant in
    let all : c.args.at + c.first_digit-first.result + 1 ≡ c.args.at + c.loop-place.place-iterator.count = omega (arith, k.room, none) in
    (rw (all, down_all c.args.self.now.digits c.args.self.now.all_digits c.first_digit-first.result c.first_digit-first.ensures.0 c.first_digit-first.ensures.1 c.first_digit-first.ensures.2) (count_ends k none), omega (arith, c.first_digit-first.ensures.0))
