-- `read_full` stays within the space; what stands up to `done` was read.
use borrow.Author.Rules.{rules}
use native.Mathlib.Omega.{arith}
use Rattle.reading.proofs.OneMore.{read_more}
use Rattle.reading.proofs.read_full.Goals as goal

pub loop-done-preserved : goal.loop-done-preserved
loop-done-preserved g c = record {
  within = search rules;
  bytes = read_more _ _ _ c.read.result _ _ _ _ _ c.loop-done.invariant.bytes c.read.ensures.bound c.read.ensures.bytes (omega arith) c.unwrap_or-more.ensures c.if-more-eq0.false;
}
