-- With 1 for its eighth number a question is printed as it was before there was one.
use mathlib.Core.Path.{◌≡◌}
use mathlib.Core.Bool.{cond}
use mathlib.Core.List.{List}
use Prim.Native.Nat.{ℕ}
use lib.Dec.{ltb}
use lib.ListN.{length, drop}
use Rattle.question.specs.Before.{asked_before}
use Rattle.question.proofs.Undated.{as_before}
use Rattle.portion.specs.Listing.{listing_before}
use Rattle.text.specs.Lines.{refusal_line}
use Rattle.chains.specs.Program.{question_size, question_in, text_for, printed}

pub prints_before : (input : List ℕ) → (question_in input).undated ≡ 1
    → printed input ≡ cond (ltb (length input) question_size) (refusal_line 19 0) (text_for (asked_before (drop question_size input) (question_in input)) (listing_before (drop question_size input) (question_in input)) 0)
prints_before input wants = let before = as_before (drop question_size input) (question_in input) wants in rw (before.asked, before.graph)
