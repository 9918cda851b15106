-- The demands at the C door: what the one number tells that each exported function answers. Definitions only.
-- The promises of `kin_portion`, `kin_rings` and `kin_join` (outside, specs/) hold the promise of the operation behind them, of the same cells, and so does
-- that of `kin_held`, by `kin_held_moves`: so demands 2 and 3, which speak of such calls, hold of theirs, and count and ended are read off the number.
use Rattle.std.specs.Prelude.{◌≡◌, ◌≢◌, ◌↔◌, Bool, true, List, ◌∷◌, ℕ, ◌^◌, ◌≤◌, ◌<◌, length}
use Rattle.format.specs.Format.{person_count, link_count, feed_count}
use Rattle.refusals.specs.Faults.{Fault, sound, fault, unless, first_of}
use Rattle.checking.specs.Checked.{file_fault, file_numbers}
use Rattle.question.specs.declared.Question.{Question}
use Rattle.question.specs.Asked.{person_fault, asked_numbers}
use Rattle.portion.specs.Listing.{portion_fault, portion_numbers, portion_for, ended_for}
use Rattle.rings.specs.Rings.{rings_fault, rings_numbers, rings_portion, rings_ended}
use Rattle.listing.specs.Portions.{Start}
use Rattle.refusals.specs.Answers.{answer_said, Told}
use Rattle.ways.specs.Graph.{◌∈◌}
use Rattle.held.specs.Holding.{start_of, MovedOn}
use Rattle.join.specs.Lists.{chains_for, join_fault, join_numbers, first_ones, all_fit}
use Rattle.outside.specs.Encoded.{listed_number, CheckNumber, RowNumber, FewestNumber, PortionNumber, RingsNumber, JoinNumber}
use Rattle.outside.specs.HeldCells.{stored_size, held_whole, held_of, HeldNumber, as_today}
use Rattle.outside.specs.TakenApart.{refusal_in, place_in, count_in, ended_in, persons_in, links_in, feeds_in}
use Rattle.demands.specs.Paths.{FewestFrom}

-- A call of which this is the first fault, its number being one of these: the answer is 2^63 or more exactly where there
-- is a fault, whose number and place are read off it, and then what was lent is unchanged; otherwise the answer is read off it
pub record Tells (first : Fault) (numbers : List ℕ) (answer : ℕ) (Unchanged Answers : Type 0) : Type 0 where
  pub refused : (2 ^ 63 ≤ answer) ↔ (first ≢ sound)
  pub apart : (number place : ℕ) → first ≡ fault number place → (refusal_in answer ≡ number) × (place_in answer ≡ place) × (number ∈ numbers)
  pub unchanged : 2 ^ 63 ≤ answer → Unchanged
  pub answers : first ≡ sound → Answers

-- nothing is lent but for reading
abbrev pub NothingLent : Type 0
NothingLent = Unit {0}

-- so many chains were listed, and whether none follows
abbrev pub Listed : ℕ → ℕ → Bool → Type 0
Listed answer count ended = (count_in answer ≡ count) × (ended_in answer ≡ ended)

-- a held listing of a wrong size counts as number 0
abbrev pub size_fault : Bool → Fault → Fault
size_fault whole after = unless whole 0 0 after

-- the first fault of a held listing in cells: its size, then the portion's
abbrev pub held_fault : List ℕ → List ℕ → List ℕ → Fault
held_fault file cells out = size_fault (held_whole (length cells)) (portion_fault file (held_of cells).question (start_of (held_of cells)) out)

pub record AtTheDoor : Type 0 where
  pub kin_check : (file : List ℕ) {answer : ℕ} → CheckNumber file answer
      → Tells (file_fault file) file_numbers answer NothingLent ((persons_in answer ≡ person_count file) × (links_in answer ≡ link_count file) × (feeds_in answer ≡ feed_count file))
  -- the row view comes with no refusal number
  pub kin_row : (file : List ℕ) (person : ℕ) {answer : ℕ} → RowNumber file person answer → answer < 2 ^ 63
  pub kin_fewest : (file : List ℕ) (q : Question) (person : ℕ) {answer : ℕ} → FewestNumber file q person answer
      → Tells (first_of (file_fault file) (person_fault (person_count file) q person)) asked_numbers answer NothingLent (FewestFrom file q person answer)
  pub kin_portion : (file : List ℕ) (q : Question) {start : Start} {out out' : List ℕ} {answer : ℕ} → PortionNumber file q start out out' answer
      → Tells (portion_fault file q start out) portion_numbers answer (out' ≡ out) (Listed answer (length (portion_for file q start out)) (ended_for file q start out))
  pub kin_rings : (file : List ℕ) (q : Question) {start : Start} {out out' : List ℕ} {answer : ℕ} → RingsNumber file q start out out' answer
      → Tells (rings_fault file q start out) rings_numbers answer (out' ≡ out) (Listed answer (length (rings_portion file q start out)) (rings_ended file q start out))
  pub kin_held : {file cells cells' out out' : List ℕ} {answer : ℕ} → HeldNumber file cells cells' out out' answer
      → Tells (held_fault file cells out) (0 ∷ portion_numbers) answer ((cells' ≡ cells) × (out' ≡ out))
      (Listed answer (length (portion_for file (held_of cells).question (start_of (held_of cells)) out)) (ended_for file (held_of cells).question (start_of (held_of cells)) out))
  -- it moves the held listing in its cells on to the one in its cells at exit, so calls one after another are calls of one held listing
  pub kin_held_moves : {file cells cells' out out' : List ℕ} {answer : ℕ} → HeldNumber file cells cells' out out' answer → held_whole (length cells) ≡ true
      → (said : Told) × MovedOn file (held_of cells) (held_of cells') out out' said × (answer ≡ listed_number (answer_said said))
  -- "a held listing stored before counts as 1": it is answered, and left, as today's form of it with undated 1 would be, cell by cell
  pub kin_held_stored : {file cells cells' today out out' other : List ℕ} {answer number : ℕ} → length cells ≡ stored_size → HeldNumber file cells cells' out out' answer
      → HeldNumber file (as_today cells) today out other number
      → (number ≡ answer) × (today ≡ as_today cells') × (other ≡ out')
  -- "with none, nothing in it changes"
  pub kin_held_stays : {file cells cells' out out' : List ℕ} {answer : ℕ} → HeldNumber file cells cells' out out' answer → count_in answer ≡ 0 → (cells' ≡ cells) × (out' ≡ out)
  pub kin_join : {file : List ℕ} {q : Question} {working working' out out' : List ℕ} {answer : ℕ} → JoinNumber file q working working' out out' answer
      → Tells (join_fault file q working out) join_numbers answer ((working' ≡ working) × (out' ≡ out)) (Listed answer (length (first_ones (chains_for file q) out)) (all_fit (chains_for file q) out))
