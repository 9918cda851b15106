-- One person more is pasted.
use lib.Seq.{paste-suc}
use native.Mathlib.Omega.{arith}
use native.Mathlib.Numerals.{add-one}
use Rattle.traces.proofs.records.put_behind.Goals as goal

pub loop-i-preserved : goal.loop-i-preserved
loop-i-preserved c =
    rw (c.loop-i.invariant, add-one c.loop-i.i) (paste-suc c.args.out.now c.args.at c.args.behind.now c.loop-i.i 0 (omega (arith, c.requires)) c.loop-i-test.true)
