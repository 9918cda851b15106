-- What the program prints for what it reads. Definitions only.
use Rattle.std.specs.Prelude.{List, ◌++◌, cond, ℕ, ◌+◌, length, take, drop, ltb, Result, Ok, Err}
use Rattle.format.specs.Numbers.{number32}
use Rattle.format.specs.Format.{marked, counts_fit}
use Rattle.refusals.specs.Faults.{Fault, sound, fault}
use Rattle.refusals.specs.Reasons.{number_of}
use Rattle.refusals.specs.declared.Refusal.{Refusal}
use Rattle.question.specs.declared.Question.{Question}
use Rattle.question.specs.Asked.{asked_fault}
use Rattle.portion.specs.Listing.{listing_for}
use Rattle.text.specs.Lines.{chain_lines, end_line, refusal_line}

-- "The program's question becomes 32 bytes, and 01's 28 reads 32.": eight 32-bit numbers
abbrev pub question_size : ℕ
question_size = 32

-- "the question in the order above"
abbrev pub question_in : List ℕ → Question
question_in input = record {
  from = number32 input 0;
  to = number32 input 4;
  hops = number32 input 8;
  classes = number32 input 12;
  meaning = number32 input 16;
  first = number32 input 20;
  last = number32 input 24;
  undated = number32 input 28;
}

-- what is heard: a question, or a refusal with its number and place
pub data Heard : Type 0 where
  asks : Question → Heard
  refused : ℕ → ℕ → Heard

-- what the code says, in these words
abbrev pub input_said : Result Question Refusal → Heard
input_said (Ok q) = asks q
input_said (Err refusal) = refused (number_of refusal.reason) refusal.place

-- 19: "program: input under 28 bytes", which reads 32, place 0; "19 precedes all"
abbrev pub heard_in : List ℕ → Heard
heard_in input = cond (ltb (length input) question_size) (refused 19 0) (asks (question_in input))

-- "A refusal prints only `refused R at P`." Otherwise a line for each chain, "then `end`, a space and the number of chains":
-- of these chains, where so many were printed before them
abbrev pub text_for : Fault → List (List ℕ) → ℕ → List ℕ
text_for sound chains before = chain_lines chains ++ end_line (before + length chains)
text_for (fault number place) chains before = refusal_line number place

-- "reads from standard input" the question, eight numbers now, "then the file": all that is printed for such an input
abbrev pub printed : List ℕ → List ℕ
printed input =
    cond (ltb (length input) question_size) (refusal_line 19 0)
    (text_for (asked_fault (drop question_size input) (question_in input)) (listing_for (drop question_size input) (question_in input)) 0)

-- no file has more than 53,348 bytes: one byte more tells that a file is too long
abbrev pub longest_file : ℕ
longest_file = 53348

-- "Of a longer input it takes 28 + 53,349 bytes", where 28 reads 32: what is printed for what stands on standard input. The cut changes nothing, whatever
-- follows: the law `cut_same` of proofs/Cut.
abbrev pub longest_input : ℕ
longest_input = question_size + (longest_file + 1)

abbrev pub printed_for : List ℕ → List ℕ
printed_for stdin = printed (take longest_input stdin)

-- the program asks for so many chains at a time
abbrev pub portion_size : ℕ
portion_size = 4096

-- "which 3 refuses unless 1 or 2 does"
abbrev pub long_refusal : List ℕ → ℕ
long_refusal file = cond (marked file) (cond (counts_fit file) 3 2) 1
