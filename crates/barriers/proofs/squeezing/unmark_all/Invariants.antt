-- `unmark_all` goes up the entries that were kept.
use Rattle.barriers.proofs.Firsts.{Unmarking}
use Rattle.barriers.proofs.squeezing.unmark_all.Given as goal

abbrev pub invariant-loop-entry : goal.invariant-loop-entry
invariant-loop-entry l = Unmarking l.initial.barriers l.entry-items l.barriers l.entry-index
