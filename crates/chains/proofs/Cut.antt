-- An input longer than the program takes: 1, 2 or 3 refuses it, and what is left unread decides nothing.
use mathlib.Core.Path.{◌≡◌, refl, sym, ap, ◌∙◌}
use mathlib.Core.Bool.{Bool, true, false, cond}
use mathlib.Core.List.{List, [], ◌∷◌}
use Prim.Native.Nat.{ℕ, zero, suc, ◌+◌, ◌≤◌, ◌<◌}
use native.Mathlib.Omega.{arith}
use lib.Dec.{leb}
use borrow.Author.Tests.{le-leb, le-ltb, leb-true, leb-false}
use lib.ListN.{length, take, drop, length-drop}
use native.Mathlib.Nat.{zero-add, suc-add}
use lib.Seq.{get_or-take, take-nil, take_all, length-take-le}
use Rattle.format.specs.Numbers.{number16, number32}
use Rattle.format.specs.Format.{marked, fit, counts_fit, laid_out}
use Rattle.refusals.specs.Faults.{fault, unless}
use Rattle.checking.specs.Places.{counts_place, offsets_place}
use Rattle.checking.specs.Checked.{tables_fault, file_fault}
use Rattle.format.proofs.Counted.{counts_fit_lem, laid_out_long}
use Rattle.question.specs.declared.Question.{Question}
use Rattle.question.specs.Asked.{asked_fault}
use Rattle.portion.specs.Listing.{listing_for}
use Rattle.text.specs.Lines.{refusal_line}
use Rattle.chains.specs.Program.{question_size, question_in, text_for, printed, longest_file, longest_input, printed_for, long_refusal}
use Rattle.chains.specs.Pieces.{Begins, Run, laid}
use Rattle.chains.specs.declared.progress.Progress.{Progress}
use Rattle.chains.proofs.Putting.{laid_pieces}

-- ---- a file longer than any file
long_fault : (file : List ℕ) → longest_file < length file → file_fault file ≡ fault (long_refusal file) 0
unfolding file_fault counts_place offsets_place
long_fault file h = go (marked file) (counts_fit file) (laid_out file) refl refl
  where
    go : (a b c : Bool) → counts_fit file ≡ b → laid_out file ≡ c → unless a 1 0 (unless b 2 0 (unless c 3 0 (tables_fault file))) ≡ fault (cond a (cond b 3 2) 1) 0
    go false b c eb ec = refl
    go true false c eb ec = refl
    go true true false eb ec = refl
    go true true true eb ec =
        let fit = counts_fit_lem file eb in
        let long = laid_out_long file ec in
        absurd (omega (arith, fit.persons, fit.links, fit.feeds))

long_text : (file : List ℕ) (q : Question) (chains : List (List ℕ)) → longest_file < length file → text_for (asked_fault file q) chains 0 ≡ refusal_line (long_refusal file) 0
long_text file q chains h = rw (long_fault file h)

-- ---- the first bytes decide which refusal it is
number16-take : (n : ℕ) (l : List ℕ) (at : ℕ) → at + 1 < n → number16 (take n l) at ≡ number16 l at
unfolding number16
number16-take n l at h = rw (get_or-take n l at 0 (omega arith), get_or-take n l (at + 1) 0 h)

number32-take : (n : ℕ) (l : List ℕ) (at : ℕ) → at + 3 < n → number32 (take n l) at ≡ number32 l at
unfolding number32
number32-take n l at h = rw (number16-take n l at (omega arith), number16-take n l (at + 2) (omega arith))

refusal_take : (n : ℕ) (file : List ℕ) → 32 ≤ n → n ≤ length file → long_refusal (take n file) ≡ long_refusal file
unfolding marked fit
refusal_take n file h l =
    let long : 32 ≤ length file = omega arith in
    rw (
      length-take-le n file l,
      le-leb 32 n h,
      le-leb 32 (length file) long,
      get_or-take n file 0 0 (omega arith),
      get_or-take n file 1 0 (omega arith),
      get_or-take n file 2 0 (omega arith),
      get_or-take n file 3 0 (omega arith),
      number32-take n file 4 (omega arith),
      number32-take n file 8 (omega arith),
      number32-take n file 12 (omega arith),
    )

drop-take : (m n : ℕ) (l : List ℕ) → drop m (take (m + n) l) ≡ take n (drop m l)
drop-take zero n l = rw zero-add
drop-take (suc m) n [] = rw suc-add (sym (take-nil n))
drop-take (suc m) n (x ∷ l) = rw suc-add (drop-take m n l)

-- ---- the laws
-- a file of more bytes than any has is refused by 1, 2 or 3
pub long_printed : (input : List ℕ) → question_size + longest_file < length input → printed input ≡ refusal_line (long_refusal (drop question_size input)) 0
long_printed input h =
    let asks : question_size ≤ length input = omega arith in
    rw (le-ltb (length input) question_size asks) (long_text (drop question_size input) (question_in input) (listing_for (drop question_size input) (question_in input)) (omega (arith, length-drop question_size input)))

-- so many bytes of it are refused as the whole is
cut_at : (n : ℕ) (input : List ℕ) → longest_file < n → question_size + n ≤ length input → printed (take (question_size + n) input) ≡ printed input
cut_at n input h l =
    let file = drop question_size input in
    long_printed (take (question_size + n) input) (omega (arith, length-take-le (question_size + n) input l))
    ∙ ap (λ (f : List ℕ). refusal_line (long_refusal f) 0) (drop-take question_size n input)
    ∙ ap (λ (r : ℕ). refusal_line r 0) (refusal_take n file (omega arith) (omega (arith, length-drop question_size input)))
    ∙ sym (long_printed input (omega arith))

-- what follows the bytes that are taken changes nothing of what is printed
pub cut_same : (stdin : List ℕ) → printed_for stdin ≡ printed stdin
cut_same stdin = go (leb (length stdin) longest_input) refl
  where
    go : (t : Bool) → leb (length stdin) longest_input ≡ t → printed_for stdin ≡ printed stdin
    go true t = ap printed (take_all longest_input stdin (leb-true (length stdin) longest_input t))
    go false t = cut_at (longest_file + 1) stdin (omega arith) (omega (arith, leb-false (length stdin) longest_input t))

-- whatever stands on standard input: the pieces of a run over the bytes that are taken, laid end to end, are what is printed for it
pub run_prints : (stdin : List ℕ) {cells : List ℕ} {progress : Progress} {pieces : List (List ℕ)} → Begins progress → Run (take longest_input stdin) cells progress pieces → laid pieces ≡ printed stdin
run_prints stdin b run = laid_pieces b run ∙ cut_same stdin
