-- `go_on` meets its contract: the portion's promise says what was to come, and the laws what is to come after it.
use Rattle.chains.proofs.Going.{way_refused, way_counts, way_ends, way_on}
use Rattle.chains.proofs.onward.go_on.Goals as goal

pub returns-in_default : goal.returns-in_default
returns-in_default c = way_refused c.requires (rw c.start.ensures at c.portion-answer.ensures) _ _ c.in_default.is

pub count_on-requires : goal.count_on-requires
count_on-requires c = rw c.in-Ok.is (way_counts c.requires (rw c.start.ensures at c.portion-answer.ensures) c.in-Ok.is)

pub returns-then-not-ended : goal.returns-then-not-ended
returns-then-not-ended c =
    way_on c.requires (rw c.start.ensures at c.portion-answer.ensures) c.in-Ok.is (rw c.in-Ok.is at c.count_on.ensures) (rw c.in-Ok.is at c.if-not-ended.true) (rw c.in-Ok.is at c.last_record.ensures)

pub returns-else-not-ended : goal.returns-else-not-ended
returns-else-not-ended c =
    way_ends c.requires (rw c.start.ensures at c.portion-answer.ensures) c.in-Ok.is (rw c.in-Ok.is at c.count_on.ensures) _ (rw c.in-Ok.is at c.if-not-ended.false)
