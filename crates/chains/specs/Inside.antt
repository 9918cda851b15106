-- The inner functions of the printing: what they ask of their callers, and what they do. Definitions only.
use Rattle.std.specs.Prelude.{◌≡◌, List, Bool, true, false, cond, ℕ, ltb, Ok, Err}
use Rattle.refusals.specs.Answers.{Told}
use Rattle.chains.specs.Pieces.{Lined, to_print, Standing, NextPiece}
use Rattle.chains.specs.declared.progress.Left as code
use Rattle.chains.specs.declared.progress.Progress.{Progress}
use Rattle.chains.specs.declared.pieces.Piece.{Piece}

-- what is left can be printed at once: no portion has to be asked for first
abbrev pub AtOnce : List ℕ → code.Left → Type 0
AtOnce cells code.TheVariants.Portion = ⊥
AtOnce cells (code.TheVariants.Lines next count ended) = Lined cells next count ended
AtOnce cells (code.TheVariants.Refusal refusal) = Unit {0}
AtOnce cells code.TheVariants.Nothing = Unit {0}

abbrev pub Printable : List ℕ → Progress → Type 0
Printable cells progress = AtOnce cells progress.left

-- looking ahead leaves what is still to be printed as it was
pub record LookedAhead (input cells : List ℕ) (progress : Progress) (cells' : List ℕ) (seen : Progress) : Type 0 where
  pub same : to_print input cells progress ≡ to_print input cells' seen
  pub ready : Standing input cells' seen
  pub printable : Printable cells' seen

-- a portion's answer leaves its lines, or its refusal's
abbrev pub left_by : Told → code.Left
left_by (Ok told) = code.TheVariants.Lines 0 told.count told.ended
left_by (Err refusal) = code.TheVariants.Refusal refusal

-- a piece of so many bytes, and what it leaves
abbrev pub piece_of : Progress → ℕ → code.Left → Piece
piece_of progress bytes left = record { bytes = bytes; progress = record { left = left; bookmark = progress.bookmark; counted = progress.counted } }

-- the first lines of what is left are the next piece, whatever the input that they stand for
pub record PutPiece (cells : List ℕ) (progress : Progress) (out' : List ℕ) (piece : Piece) : Type 0 where
  pub next : (input : List ℕ) → Standing input cells progress → NextPiece input cells progress cells out' piece

-- behind the lines up to a record come the other lines; behind all, the last line or the next portion
abbrev pub behind_all : ℕ → ℕ → Bool → code.Left
behind_all next count true = code.TheVariants.Lines next count true
behind_all next count false = code.TheVariants.Portion

abbrev pub left_behind : ℕ → ℕ → Bool → code.Left
left_behind next count ended = cond (ltb next count) (code.TheVariants.Lines next count ended) (behind_all next count ended)
