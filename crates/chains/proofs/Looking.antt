-- Looking ahead: where a portion comes next, what is still to be printed is its lines, or a refusal's, and what follows them.
use mathlib.Core.Path.{◌≡◌, refl, ◌∙◌}
use mathlib.Core.Bool.{Bool, true, false, true≢false}
use mathlib.Core.List.{List}
use Prim.Native.Nat.{ℕ, ◌-◌, ◌≤◌}
use native.Mathlib.Omega.{arith}
use borrow.Author.Tests.{le-ltb}
use lib.ListN.{length, take, drop, length-drop}
use lib.Seq.{take_all}
use Rattle.question.specs.declared.Question.{Question}
use Rattle.std.proofs.Common.{Option, None, Ok, Err}
use Rattle.refusals.specs.Answers.{Told, listed, answer_said}
use Rattle.text.specs.Decimal.{worth}
use Rattle.text.specs.declared.counts.Counted.{Counted}
use Rattle.chains.specs.Program.{question_size, question_in, asks, heard_in}
use Rattle.chains.specs.Onward.{next_start, to_come, OnTheWay, WentOn}
use Rattle.chains.specs.Pieces.{to_print, Lined, Standing, Begins}
use Rattle.chains.specs.Inside.{LookedAhead, left_by}
use Rattle.chains.specs.declared.progress.Left as code
use Rattle.chains.specs.declared.progress.Progress.{Progress}
use Rattle.chains.proofs.Heard.{asks_what}
use Rattle.portion.proofs.Instance.{fresh_chains}
use Rattle.chains.proofs.Going.{way_starts}

-- the file is what stands behind the question
pub file_part : (input : List ℕ) → take (length input - question_size) (drop question_size input) ≡ drop question_size input
file_part input = take_all (length input - question_size) (drop question_size input) (omega (arith, length-drop question_size input))

-- ---- the start
pub begins : {progress : Progress} → progress.left ≡ code.TheVariants.Portion → progress.bookmark ≡ None → worth progress.counted.digits ≡ 0 → Begins progress
begins {progress} l b w = record {
  ready = λ input cells h. rw (l, b) (way_starts w h);
  all = λ input cells. rw (l, b, w, fresh_chains (drop question_size input) (question_in input));
}

-- ---- no portion comes next
-- ---- a portion comes next
module _ (input cells : List ℕ) (progress : Progress) (is : progress.left ≡ code.TheVariants.Portion) where
  module _ {q : Question} (h : asks q ≡ heard_in input) where
    pub look_long : question_size ≤ length input
    look_long = (asks_what input h).0

    here : to_print input cells progress ≡ to_come (drop question_size input) (question_in input) (next_start progress.bookmark) (worth progress.counted.digits)
    here = rw (is, le-ltb (length input) question_size look_long)

    pub look_on : Standing input cells progress → OnTheWay (take (length input - question_size) (drop question_size input)) q (next_start progress.bookmark) progress.counted cells
    look_on r = rw (file_part input, (asks_what input h).1) (rw is at r)

    module _ {bookmark' : Option (List ℕ)} {counted' : Counted} {cells' : List ℕ} where
      -- the portion has chains, or none
      lists : {count : ℕ} (ended : Bool) → WentOn (drop question_size input) (question_in input) (next_start progress.bookmark) (worth progress.counted.digits) (next_start bookmark') counted' cells' (listed count ended)
          → LookedAhead input cells progress cells' (record { left = code.TheVariants.Lines 0 count ended; bookmark = bookmark'; counted = counted' })
      lists {count} true on =
          let whole : count - 0 ≡ count = omega arith in
          let lined : Lined cells' 0 count true = record { to = omega arith; records = on.lists refl; some = λ x. absurd (true≢false x) } in
          record { same = here ∙ on.ends refl ∙ rw whole; ready = (lined, λ x. absurd (true≢false x)); printable = lined }
      lists {count} false on =
          let whole : count - 0 ≡ count = omega arith in
          let goes = on.goes refl in
          let lined : Lined cells' 0 count false = record { to = omega arith; records = on.lists refl; some = λ x. omega (arith, goes.2) } in
          record { same = here ∙ goes.1 ∙ rw (whole, le-ltb (length input) question_size look_long); ready = (lined, λ x. goes.0); printable = lined }

      -- it was asked for: its lines come next, or its refusal's
      pub look_answered : {left' : code.Left} (a : Told) → WentOn (take (length input - question_size) (drop question_size input)) q (next_start progress.bookmark) (worth progress.counted.digits) (next_start bookmark') counted' cells' (answer_said a)
          → left' ≡ left_by a → LookedAhead input cells progress cells' (record { left = left'; bookmark = bookmark'; counted = counted' })
      look_answered a went l = rw l (go a (rw (file_part input, (asks_what input h).1) at went))
        where
          go : (a : Told) → WentOn (drop question_size input) (question_in input) (next_start progress.bookmark) (worth progress.counted.digits) (next_start bookmark') counted' cells' (answer_said a)
              → LookedAhead input cells progress cells' (record { left = left_by a; bookmark = bookmark'; counted = counted' })
          go (Ok told) on = lists told.ended on
          go (Err refusal) on = record { same = here ∙ on.refuses refl; ready = tt; printable = tt }
