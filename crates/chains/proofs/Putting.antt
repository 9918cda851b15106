-- Putting a piece: its bytes are the first lines of what is left.
use mathlib.Core.Path.{◌≡◌, refl, sym, ap, ◌∙◌}
use mathlib.Core.Bool.{Bool, true, false}
use mathlib.Core.List.{List, [], ◌++◌, append_assoc, append-nil}
use Prim.Native.Nat.{ℕ, ◌+◌, ◌-◌, ◌≤◌, ◌<◌}
use native.Mathlib.Omega.{arith}
use borrow.Author.Tests.{ltb-true, ltb-false}
use lib.Dec.{ltb}
use lib.ListN.{length, take}
use Rattle.refusals.specs.Reasons.{number_of}
use Rattle.refusals.specs.declared.Refusal.{Refusal}
use Rattle.chains.specs.Onward.{next_start}
use Rattle.text.specs.Decimal.{worth}
use Rattle.text.specs.Lines.{chain_lines, chains_at, end_line, refusal_line}
use Rattle.text.specs.Printed.{Printed, LinesReach, longest_line}
use Rattle.text.specs.declared.Reached as text
use Rattle.text.proofs.Printing.{printed-length, printed-take}
use Rattle.text.proofs.Lining.{end_some, refusal_some, lines_some, chains_split, lines_append, reach_moves}
use Rattle.chains.specs.Program.{printed}
use Rattle.chains.specs.Pieces.{behind_portion, GoesOn, left_text, Lined, Ready, to_print, Begins, Run, done, next, laid}
use Rattle.chains.specs.Inside.{Printable, PutPiece, piece_of, left_behind}
use Rattle.chains.specs.declared.progress.Left as code
use Rattle.chains.specs.declared.progress.Progress.{Progress}
use Rattle.chains.specs.declared.pieces.Piece.{Piece}

-- ---- a piece that is the whole text of what is left
module _ (cells : List ℕ) (progress : Progress) where
  put_all : {text out out' : List ℕ} {bytes : ℕ} {piece : Piece} → ((input : List ℕ) → to_print input cells progress ≡ text) → 1 ≤ length text → Printed out 0 text out' bytes → bytes ≤ length out
      → piece ≡ piece_of progress bytes code.TheVariants.Nothing → PutPiece cells progress out' piece
  put_all {text} {out} {out'} {bytes} same some p h is = rw is (record {
    next = λ input r. record {
      within = omega (arith, printed-length p);
      text = same input ∙ sym (append-nil text) ∙ ap (λ (t : List ℕ). t ++ []) (sym (printed-take p h));
      empty = λ e. absurd (omega (arith, p.place));
      ready = tt;
    };
  })

  pub put_refusal : {refusal : Refusal} {out out' : List ℕ} {bytes : ℕ} {piece : Piece} → progress.left ≡ code.TheVariants.Refusal refusal → Printed out 0 (refusal_line (number_of refusal.reason) refusal.place) out' bytes → bytes ≤ length out
      → piece ≡ piece_of progress bytes code.TheVariants.Nothing → PutPiece cells progress out' piece
  put_refusal {refusal} left = put_all (λ input. rw left) (refusal_some (number_of refusal.reason) refusal.place)

  pub put_lined : {next count : ℕ} {ended : Bool} → progress.left ≡ code.TheVariants.Lines next count ended → Printable cells progress → Lined cells next count ended
  put_lined left ok = rw left at ok

  -- ---- the lines come next
  module _ {next count : ℕ} {ended : Bool} (left : progress.left ≡ code.TheVariants.Lines next count ended) (ok : Lined cells next count ended) where
    -- behind the lines up to a record
    behind_text : (input : List ℕ) {n : ℕ} → n ≤ count
        → left_text input progress.bookmark progress.counted cells (left_behind n count ended) ≡ chain_lines (chains_at cells n (count - n)) ++ behind_portion input progress.bookmark (worth progress.counted.digits) ended
    unfolding chains_at chain_lines
    behind_text input {n} h = go (ltb n count) refl ended
      where
        go : (t : Bool) → ltb n count ≡ t → (e : Bool)
            → left_text input progress.bookmark progress.counted cells (left_behind n count e) ≡ chain_lines (chains_at cells n (count - n)) ++ behind_portion input progress.bookmark (worth progress.counted.digits) e
        go true t e = rw t
        go false t true = rw t
        go false t false = let none : count - n ≡ 0 = omega (arith, ltb-false n count t) in rw (t, none)

    behind_ready : (input : List ℕ) {n : ℕ} → n ≤ count → Ready input progress.bookmark progress.counted cells (code.TheVariants.Lines next count ended)
        → Ready input progress.bookmark progress.counted cells (left_behind n count ended)
    behind_ready input {n} h r = go (ltb n count) refl ended r.1
      where
        go : (t : Bool) → ltb n count ≡ t → (e : Bool) → (e ≡ false → GoesOn input (next_start progress.bookmark) progress.counted cells)
            → Ready input progress.bookmark progress.counted cells (left_behind n count e)
        go true t e on = rw t (record { to = h; records = ok.records; some = λ x. ltb-true n count t }, on)
        go false t true on = rw t (record { to = h; records = ok.records; some = λ x. absurd (let z : ◌≡◌ {A = ℕ} 0 1 = cc in omega arith) }, on)
        go false t false on = rw t (on refl)

    -- the last line
    pub put_end : {out out' : List ℕ} {bytes : ℕ} {piece : Piece} → count ≤ next → Printed out 0 (end_line (worth progress.counted.digits)) out' bytes → bytes ≤ length out
        → piece ≡ piece_of progress bytes code.TheVariants.Nothing → PutPiece cells progress out' piece
    unfolding chains_at chain_lines
    put_end h = put_all (λ input. ap (left_text input progress.bookmark progress.counted cells) left ∙ last input ended ok.some) (end_some (worth progress.counted.digits))
      where
        last : (input : List ℕ) (t : Bool) → (t ≡ false → next < count) → left_text input progress.bookmark progress.counted cells (code.TheVariants.Lines next count t) ≡ end_line (worth progress.counted.digits)
        last input true some = let none : count - next ≡ 0 = omega arith in rw none
        last input false some = absurd (omega (arith, some refl))

    -- the lines of chains
    pub put_lines : {out out' : List ℕ} {reached : text.Reached} {after : code.Left} {piece : Piece} → next < count → longest_line ≤ length out → LinesReach cells next count out out' reached → after ≡ left_behind reached.next count ended
        → piece ≡ piece_of progress reached.bytes after → PutPiece cells progress out' piece
    put_lines {out} {out'} {reached} {after} h room p behind is = rw is (record {
      next = λ input r. record {
        within = omega (arith, printed-length p.lines, p.within);
        text = ap (left_text input progress.bookmark progress.counted cells) left ∙ parts (behind_portion input progress.bookmark (worth progress.counted.digits) ended)
            ∙ sym (ap (λ (t : List ℕ). take reached.bytes out' ++ t) (ap (left_text input progress.bookmark progress.counted cells) behind ∙ behind_text input p.to));
        empty = λ e. absurd (omega (arith, p.lines.place, lines_some cells next (reached.next - next) (omega (arith, reach_moves p h room))));
        ready = rw behind (behind_ready input p.to (rw left at r));
      };
    })
      where
        parts : (rest : List ℕ) → chain_lines (chains_at cells next (count - next)) ++ rest ≡ take reached.bytes out' ++ (chain_lines (chains_at cells reached.next (count - reached.next)) ++ rest)
        parts rest =
            let many : count - next ≡ reached.next - next + (count - reached.next) = omega (arith, p.from, p.to) in
            let at : next + (reached.next - next) ≡ reached.next = omega (arith, p.from) in
            let A = chains_at cells next (reached.next - next) in
            let B = chains_at cells reached.next (count - reached.next) in
            rw (printed-take p.lines p.within, many, chains_split cells next (reached.next - next) (count - reached.next), at, lines_append A B) (append_assoc (chain_lines A) (chain_lines B) rest)

-- ---- looked ahead and put: the next piece
-- ---- the pieces of a run from the start, laid end to end, are all that the program prints
run_laid : {input cells : List ℕ} {progress : Progress} {pieces : List (List ℕ)} → Run input cells progress pieces → to_print input cells progress ≡ laid pieces
run_laid (done p none) = p.empty none
run_laid (next {out' = out'} {piece = piece} p run) = p.text ∙ ap (λ (t : List ℕ). take piece.bytes out' ++ t) (run_laid run)

pub laid_pieces : {input cells : List ℕ} {progress : Progress} {pieces : List (List ℕ)} → Begins progress → Run input cells progress pieces → laid pieces ≡ printed input
laid_pieces {input} {cells} b run = sym (run_laid run) ∙ b.all input cells
