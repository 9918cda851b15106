-- A held listing in cells: the numbers of its question, started, the record; 19 cells in all, or 18 in one that was stored before the question
-- had its eighth number. Definitions only.
use Rattle.std.specs.Prelude.{◌≡◌, Bool, true, false, ◌||◌, cond, List, ◌∷◌, ◌++◌, ℕ, ◌+◌, ◌-◌, ◌^◌, length, get_or, take, drop, eqb}
use Rattle.ways.specs.Sizes.{record_size}
use Rattle.question.specs.declared.Question.{Question}
use Rattle.refusals.specs.Answers.{answer_said, Told}
use Rattle.held.specs.declared.Held.{Held}
use Rattle.held.specs.Holding.{MovedOn}
use Rattle.outside.specs.Encoded.{asking, Small, listed_number}

-- the numbers of a question, and those of one stored before
abbrev pub question_numbers : ℕ
question_numbers = 8

abbrev pub stored_numbers : ℕ
stored_numbers = 7

-- the cells behind a question, started and the record; and all the cells of a held listing, of either form
abbrev pub behind_size : ℕ
behind_size = 1 + record_size

abbrev pub held_size : ℕ
held_size = question_numbers + behind_size

abbrev pub stored_size : ℕ
stored_size = stored_numbers + behind_size

abbrev pub held_whole : ℕ → Bool
held_whole cells = eqb cells held_size || eqb cells stored_size

-- how many of the cells are the question's
abbrev pub numbers_in : List ℕ → ℕ
numbers_in cells = length cells - behind_size

-- whether undated links are admitted: "a held listing stored before counts as 1"
abbrev pub undated_in : List ℕ → ℕ
undated_in cells = cond (eqb (length cells) held_size) (get_or cells 7 0) 1

-- the question in the first of them
abbrev pub asking_in : List ℕ → Question
asking_in cells =
    asking (get_or cells 0 0) (get_or cells 1 0) (get_or cells 2 0) (get_or cells 3 0) (get_or cells 4 0) (get_or cells 5 0) (get_or cells 6 0) (undated_in cells)

abbrev pub held_of : List ℕ → Held
held_of cells = record { question = asking_in cells; started = get_or cells (numbers_in cells) 0; «record» = drop (numbers_in cells + 1) cells }

-- the question stays; started and the record's cells are put behind it
abbrev pub cells_of_held : List ℕ → Held → List ℕ
cells_of_held cells held = take (numbers_in cells) cells ++ held.started ∷ take record_size held.«record»

-- a call on the cells of a held listing does what its promise says
pub record MovedCells (file cells cells' out out' : List ℕ) (number : ℕ) : Type 0 where
  pub answer : Told
  pub held : Held
  pub moves : MovedOn file (held_of cells) held out out' answer
  pub small : Small (answer_said answer)
  pub answers : number ≡ listed_number (answer_said answer)
  pub keeps : cells' ≡ cells_of_held cells held

-- with any other number of cells it answers 2^63 before anything else is looked at, and changes nothing
pub record HeldNumber (file cells cells' out out' : List ℕ) (number : ℕ) : Type 0 where
  pub wrong_size : held_whole (length cells) ≡ false → (number ≡ 2 ^ 63) × (cells' ≡ cells) × (out' ≡ out)
  pub moved : held_whole (length cells) ≡ true → MovedCells file cells cells' out out' number

-- the cells of a held listing stored before, as those of today's form with undated 1
abbrev pub as_today : List ℕ → List ℕ
as_today cells = take stored_numbers cells ++ 1 ∷ drop stored_numbers cells
