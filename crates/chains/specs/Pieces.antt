-- What is printed, piece by piece: what is still to be printed. Definitions only.
use Rattle.std.specs.Prelude.{◌≡◌, List, [], ◌∷◌, ◌++◌, Bool, true, false, cond, ℕ, ◌-◌, ◌≤◌, ◌<◌, length, take, drop, ltb, Option}
use Rattle.ways.specs.Sizes.{record_size}
use Rattle.listing.specs.Portions.{Start}
use Rattle.refusals.specs.Reasons.{number_of}
use Rattle.text.specs.Decimal.{worth}
use Rattle.text.specs.Lines.{chain_lines, chains_at, end_line, refusal_line, Records}
use Rattle.text.specs.declared.counts.Counted.{Counted}
use Rattle.chains.specs.Program.{question_size, question_in, printed}
use Rattle.chains.specs.Onward.{next_start, to_come, OnTheWay}
use Rattle.chains.specs.declared.progress.Left as code
use Rattle.chains.specs.declared.progress.Progress.{Progress}
use Rattle.chains.specs.declared.pieces.Piece.{Piece}

-- what is still to be printed from a start on, where so many chains were printed before: a short input is refused
abbrev pub from_start : List ℕ → Start → ℕ → List ℕ
from_start input start before =
    cond (ltb (length input) question_size) (refusal_line 19 0) (to_come (drop question_size input) (question_in input) start before)

-- what follows the last line of a portion: the last line of all, or what is to come behind the bookmark
abbrev pub behind_portion : List ℕ → Option (List ℕ) → ℕ → Bool → List ℕ
behind_portion input bookmark before true = end_line before
behind_portion input bookmark before false = from_start input (next_start bookmark) before

-- what is still to be printed, in each case of the code's enum
abbrev pub left_text : List ℕ → Option (List ℕ) → Counted → List ℕ → code.Left → List ℕ
left_text input bookmark counted cells code.TheVariants.Portion = from_start input (next_start bookmark) (worth counted.digits)
left_text input bookmark counted cells (code.TheVariants.Lines next count ended) =
    chain_lines (chains_at cells next (count - next)) ++ behind_portion input bookmark (worth counted.digits) ended
left_text input bookmark counted cells (code.TheVariants.Refusal refusal) = refusal_line (number_of refusal.reason) refusal.place
left_text input bookmark counted cells code.TheVariants.Nothing = []

-- the lines from a record on can be printed: the cells hold the records, and where more portions follow there is a line
pub record Lined (cells : List ℕ) (next count : ℕ) (ended : Bool) : Type 0 where
  pub to : next ≤ count
  pub records : Records cells count
  pub some : ended ≡ false → next < count

-- what is left can be printed: a portion that comes next, or behind the lines, goes on from the bookmark
abbrev pub GoesOn : List ℕ → Start → Counted → List ℕ → Type 0
GoesOn input start counted cells = OnTheWay (drop question_size input) (question_in input) start counted cells

abbrev pub Ready : List ℕ → Option (List ℕ) → Counted → List ℕ → code.Left → Type 0
Ready input bookmark counted cells code.TheVariants.Portion = GoesOn input (next_start bookmark) counted cells
Ready input bookmark counted cells (code.TheVariants.Lines next count ended) = Lined cells next count ended × (ended ≡ false → GoesOn input (next_start bookmark) counted cells)
Ready input bookmark counted cells (code.TheVariants.Refusal refusal) = Unit {0}
Ready input bookmark counted cells code.TheVariants.Nothing = Unit {0}

-- all that is still to be printed
abbrev pub to_print : List ℕ → List ℕ → Progress → List ℕ
to_print input cells progress = left_text input progress.bookmark progress.counted cells progress.left

abbrev pub Standing : List ℕ → List ℕ → Progress → Type 0
Standing input cells progress = Ready input progress.bookmark progress.counted cells progress.left

-- at the start that is all that the program prints for this input
pub record Begins (progress : Progress) : Type 0 where
  pub ready : (input cells : List ℕ) → record_size ≤ length cells → Standing input cells progress
  pub all : (input cells : List ℕ) → to_print input cells progress ≡ printed input

-- a piece: what was to be printed before is its bytes, and then what is to be printed after it; it is empty only where nothing is left
pub record NextPiece (input cells : List ℕ) (progress : Progress) (cells' out' : List ℕ) (piece : Piece) : Type 0 where
  pub within : piece.bytes ≤ length out'
  pub text : to_print input cells progress ≡ take piece.bytes out' ++ to_print input cells' piece.progress
  pub empty : piece.bytes ≡ 0 → to_print input cells progress ≡ []
  pub ready : Standing input cells' piece.progress

-- a run of calls, each from where the one before it left off, until a piece is empty: the pieces
pub data Run (input : List ℕ) : List ℕ → Progress → List (List ℕ) → Type 0 where
  done : {cells : List ℕ} {progress : Progress} {cells' out' : List ℕ} {piece : Piece} → NextPiece input cells progress cells' out' piece → piece.bytes ≡ 0 → Run input cells progress []
  next : {cells : List ℕ} {progress : Progress} {cells' out' : List ℕ} {piece : Piece} {pieces : List (List ℕ)} → NextPiece input cells progress cells' out' piece
      → Run input cells' piece.progress pieces → Run input cells progress (take piece.bytes out' ∷ pieces)

-- the pieces laid end to end
abbrev pub laid : List (List ℕ) → List ℕ
laid [] = []
laid (piece ∷ pieces) = piece ++ laid pieces
