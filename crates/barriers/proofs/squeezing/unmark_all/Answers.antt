-- `unmark_all` goes up the entries that were kept.
use mathlib.Core.Path.{refl}
use Rattle.barriers.proofs.Firsts.{unmark_turn, unmark_end}
use Rattle.barriers.proofs.squeezing.unmark_all.Goals as goal

pub loop-entry-preserved : goal.loop-entry-preserved
loop-entry-preserved c = unmark_turn c.loop-entry.invariant c.loop-entry-test.true c.unmark.ensures

pub returns : goal.returns
returns c = unmark_end c.loop-entry.invariant c.requires refl c.loop-entry-test.false
