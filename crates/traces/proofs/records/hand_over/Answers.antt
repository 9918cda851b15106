-- A chain that is handed over is noted, counted, or written cell by cell.
use Rattle.traces.proofs.Writing.{hand_count, hand_put}
use Rattle.traces.proofs.records.hand_over.Goals as goal
use Rattle.traces.proofs.records.hand_over.Goals.{in-Write, in_default}

pub returns : goal.returns
returns c =
    elim c.match-tracing.branch [
      | in-Write w ↦ rw w.out-is (hand_put c.requires c.if-count-tracing.false w.in-Write.is w.put.ensures w.put_behind.ensures)
      | in_default w ↦ rw w.out-is (hand_count c.requires c.if-count-tracing.false w.in_default.is)
    ]
