-- `put_piece` meets its contract: each case of what is left has its law.
use mathlib.Core.Path.{◌≡◌}
use native.Mathlib.Omega.{arith}
use Rattle.refusals.specs.Reasons.{number_of}
use Rattle.chains.proofs.Putting.{put_lined, put_lines, put_end, put_refusal}
use Rattle.chains.proofs.pieces.put_piece.Goals as goal

pub returns-then-next-count : goal.returns-then-next-count
returns-then-next-count c =
    let lined = put_lined c.args.cells.now c.args.progress c.in-Lines.is c.requires.0 in
    put_lines c.args.cells.now c.args.progress c.in-Lines.is lined c.if-next-count.true c.requires.1 c.lines-reached.ensures c.behind_lines-after.ensures c.piece_of.ensures

pub returns-else-next-count : goal.returns-else-next-count
returns-else-next-count c =
    let lined = put_lined c.args.cells.now c.args.progress c.in-Lines.is c.requires.0 in
    let line = c.end_line-bytes.ensures in
    put_end c.args.cells.now c.args.progress c.in-Lines.is lined c.if-next-count.false line.0 (omega (arith, line.1, c.requires.1)) c.piece_of-in-Lines.ensures

pub returns-in-Refusal : goal.returns-in-Refusal
returns-in-Refusal c =
    let line = c.refusal_line-bytes.ensures in
    let number : c.number.result ≡ number_of c.in-Refusal.refusal.reason = c.number.ensures.0 in
    put_refusal c.args.cells.now c.args.progress c.in-Refusal.is (rw number at line.0) (omega (arith, line.1, c.requires.1)) c.piece_of-in-Refusal.ensures
