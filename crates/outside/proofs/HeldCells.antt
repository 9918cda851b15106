-- A held listing in cells, of either form: one that did not change leaves its cells as they came, and what was put into cells is read off
-- them again. One that was stored before is read, and put back, as today's with undated 1.
use mathlib.Core.Path.{◌≡◌, refl, sym, ap, subst, ◌∙◌}
use mathlib.Core.Bool.{Bool, true, false, ◌||◌, cond}
use mathlib.Core.List.{List, [], ◌∷◌, ◌++◌, append_assoc, append-nil}
use Prim.Native.Nat.{ℕ, suc, ◌+◌, ◌≤◌, ◌<◌}
use native.Mathlib.Omega.{arith}
use lib.ListN.{length, get_or, set, take, drop, length-set, length-drop, length-append, drop_of_length-le, get_or-append}
use lib.Dec.{eqb}
use lib.Seq.{paste, split_at, take_at, drop_at, get_or_at, get_or-take, get_or-drop, get_or-append-add, take-append-add, drop-append-add, drop-drop, length-take-le, take_all, take-suc-set}
use borrow.Author.Tests.{eqb-true}
use Rattle.ways.specs.Sizes.{record_size}
use Rattle.held.specs.declared.Held.{Held}
use Rattle.outside.specs.HeldCells.{question_numbers, stored_numbers, held_size, stored_size, held_whole, numbers_in, undated_in, asking_in, held_of, cells_of_held, as_today}

-- either form has the cells of the stored one at least, and those of today's at most
pub whole_sizes : (size : ℕ) → held_whole size ≡ true → (stored_size ≤ size) × (size ≤ held_size)
whole_sizes size h = go (eqb size held_size) refl h
  where
    go : (today : Bool) → eqb size held_size ≡ today → today || eqb size stored_size ≡ true → (stored_size ≤ size) × (size ≤ held_size)
    go true e h = let same = eqb-true size held_size e in (omega arith, omega arith)
    go false e h = let same = eqb-true size stored_size h in (omega arith, omega arith)

-- what stands in front is read as it was, whatever is put behind it
front_same : (cells rest : List ℕ) (front i : ℕ) → front ≤ length cells → i < front → get_or (take front cells ++ rest) i 0 ≡ get_or cells i 0
front_same cells rest front i h below = get_or-append (take front cells) rest 0 i (omega (arith, length-take-le front cells h)) ∙ get_or-take front cells i 0 below

module _ (cells : List ℕ) (whole : (stored_size ≤ length cells) × (length cells ≤ held_size)) where
  -- the record is all that stands behind started
  pub record_all : take record_size (drop (numbers_in cells + 1) cells) ≡ drop (numbers_in cells + 1) cells
  record_all = take_all record_size (drop (numbers_in cells + 1) cells) (omega (arith, length-drop (numbers_in cells + 1) cells, whole))

  pub held_kept : cells_of_held cells (held_of cells) ≡ cells
  held_kept =
      let next : numbers_in cells + 1 ≡ suc (numbers_in cells) = omega arith in
      rw (record_all, next) (sym (split_at cells (numbers_in cells) 0 (omega (arith, whole))))

  -- a question is told by its own cells
  asking_kept : (rest : List ℕ) → length (take (numbers_in cells) cells ++ rest) ≡ length cells → asking_in (take (numbers_in cells) cells ++ rest) ≡ asking_in cells
  asking_kept rest long =
      let number : (i : ℕ) → i < numbers_in cells → get_or (take (numbers_in cells) cells ++ rest) i 0 ≡ get_or cells i 0 = λ i h. front_same cells rest (numbers_in cells) i (omega arith) h in
      let undated : undated_in (take (numbers_in cells) cells ++ rest) ≡ undated_in cells = rw long (go (eqb (length cells) held_size) refl) in
      rw (number 0 (omega (arith, whole)), number 1 (omega (arith, whole)), number 2 (omega (arith, whole)), number 3 (omega (arith, whole)), number 4 (omega (arith, whole)), number 5 (omega (arith, whole)), number 6 (omega (arith, whole)), undated)
    where
      go : (today : Bool) → eqb (length cells) held_size ≡ today → cond today (get_or (take (numbers_in cells) cells ++ rest) stored_numbers 0) 1 ≡ cond today (get_or cells stored_numbers 0) 1
      go true e = front_same cells rest (numbers_in cells) stored_numbers (omega arith) (omega (arith, eqb-true (length cells) held_size e))
      go false e = refl

  -- the held listing in these cells, moved on to a record
  abbrev pub moved_to : List ℕ → Held
  moved_to last = record { question = (held_of cells).question; started = 1; «record» = last }

  pub held_back : (last : List ℕ) → length last ≡ record_size → held_of (cells_of_held cells (moved_to last)) ≡ moved_to last
  held_back last long =
      let front = take (numbers_in cells) cells in
      let few : length front ≡ numbers_in cells = length-take-le (numbers_in cells) cells (omega arith) in
      let same : length (front ++ 1 ∷ last) ≡ length cells = length-append front (1 ∷ last) ∙ omega (arith, few, long, whole) in
      let rest : drop (numbers_in cells + 1) (front ++ 1 ∷ last) ≡ last = subst (λ (n : ℕ). drop (n + 1) (front ++ 1 ∷ last) ≡ last) few (drop-append-add front (1 ∷ last) 1) in
      rw (take_all record_size last (omega arith), asking_kept (1 ∷ last) same, same, get_or_at front 1 last 0 (numbers_in cells) few, rest)

-- one that was stored before
module _ (cells : List ℕ) (stored : length cells ≡ stored_size) where
  abbrev front : List ℕ
  front = take stored_numbers cells

  seven : length front ≡ stored_numbers
  seven = length-take-le stored_numbers cells (omega arith)

  pub today_long : length (as_today cells) ≡ held_size
  today_long = length-append front (1 ∷ drop stored_numbers cells) ∙ omega (arith, seven, length-drop stored_numbers cells)

  -- it is read as today's with undated 1
  pub held_today : held_of (as_today cells) ≡ held_of cells
  held_today =
      let number : (i : ℕ) → i < stored_numbers → get_or (as_today cells) i 0 ≡ get_or cells i 0 = λ i h. front_same cells (1 ∷ drop stored_numbers cells) stored_numbers i (omega arith) h in
      let wants : get_or (as_today cells) stored_numbers 0 ≡ 1 = get_or_at front 1 (drop stored_numbers cells) 0 stored_numbers seven in
      let started : get_or (as_today cells) question_numbers 0 ≡ get_or cells stored_numbers 0 = subst (λ (n : ℕ). get_or (as_today cells) (n + 1) 0 ≡ get_or cells stored_numbers 0) seven (get_or-append-add front (1 ∷ drop stored_numbers cells) 1 0 ∙ get_or-drop stored_numbers cells 0 0) in
      let last : drop (question_numbers + 1) (as_today cells) ≡ drop question_numbers cells = subst (λ (n : ℕ). drop (n + 2) (as_today cells) ≡ drop question_numbers cells) seven (drop-append-add front (1 ∷ drop stored_numbers cells) 2 ∙ drop-drop 1 stored_numbers cells) in
      rw (today_long, stored, number 0 (omega arith), number 1 (omega arith), number 2 (omega arith), number 3 (omega arith), number 4 (omega arith), number 5 (omega arith), number 6 (omega arith), wants, started, last)

  -- and what is put into its cells is what would be put into today's
  pub cells_today : (held : Held) → cells_of_held (as_today cells) held ≡ as_today (cells_of_held cells held)
  cells_today held =
      let rest = held.started ∷ take record_size held.«record» in
      let eight : take question_numbers (as_today cells) ≡ front ++ (1 ∷ []) = subst (λ (n : ℕ). take (n + 1) (as_today cells) ≡ front ++ (1 ∷ [])) seven (take-append-add front (1 ∷ drop stored_numbers cells) 1) in
      rw (today_long, stored, eight, take_at front rest stored_numbers seven, drop_at front rest stored_numbers seven) (append_assoc front (1 ∷ []) rest)

-- a number and so many cells are put in their places: all behind the first cells is new
pub put_behind : (cells last : List ℕ) (number at count : ℕ) → length cells ≡ at + 1 + count → paste (set cells at number) (at + 1) last count ≡ take at cells ++ number ∷ take count last
put_behind cells last number at count whole =
    let none : drop (at + 1 + count) (set cells at number) ≡ [] = drop_of_length-le (set cells at number) {i = at + 1 + count} (omega (arith, length-set cells at number)) in
    let one : at + 1 ≡ suc at = omega arith in
    let front : take (at + 1) (set cells at number) ≡ take at cells ++ (number ∷ []) = ap (λ (n : ℕ). take n (set cells at number)) one ∙ take-suc-set cells at number (omega arith) in
    rw (front, none, append-nil, append_assoc)
