-- The row view: the part of the file that a person's links occupy. Definitions only.
use Rattle.std.specs.Prelude.{List, cond, ℕ, ◌+◌, ◌-◌, take, drop, ltb}
use Rattle.format.specs.Format.{row, link_at}
use Rattle.checking.specs.Verdict.{Verdict, passed, refused}
use Rattle.checking.specs.Checked.{checked}

-- The view goes from the place of link row[p] to the place of link row[p+1].
-- For a refused file, or a person out of range, the part is empty: it starts and ends where the file starts.
abbrev pub view_start : Verdict → List ℕ → ℕ → ℕ
view_start (refused number place) file person = 0
view_start (passed n m f) file person = cond (ltb person n) (link_at file (row file person)) 0

abbrev pub view_end : Verdict → List ℕ → ℕ → ℕ
view_end (refused number place) file person = 0
view_end (passed n m f) file person = cond (ltb person n) (link_at file (row file (person + 1))) 0

abbrev pub row_view : List ℕ → ℕ → List ℕ
row_view file person =
    take (view_end (checked file) file person - view_start (checked file) file person) (drop (view_start (checked file) file person) file)
