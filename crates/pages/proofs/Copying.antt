-- Setting a cell of what was copied.
use mathlib.Core.Path.{◌≡◌, sym, ap, ◌∙◌}
use mathlib.Core.List.{List, [], ◌∷◌, ◌++◌}
use Prim.Native.Nat.{ℕ, ◌+◌, ◌≤◌, ◌<◌}
use lib.ListN.{length, take, drop, set, length-append}
use lib.Seq.{paste, length-take-le, set-append_left, take-set-lt}
use native.Mathlib.Omega.{arith}
use native.Mathlib.Nat.{zero-add, suc-add}

set-behind : (xs ys : List ℕ) (i x : ℕ) → set (xs ++ ys) (length xs + i) x ≡ xs ++ set ys i x
set-behind [] ys i x = ap (λ (n : ℕ). set ys n x) (zero-add i)
set-behind (y ∷ xs) ys i x = ap (λ (n : ℕ). set (y ∷ (xs ++ ys)) n x) (suc-add (length xs) i) ∙ ap (◌∷◌ y) (set-behind xs ys i x)

-- a cell of what was pasted is set where it lies
pub paste_set : (d : List ℕ) (at : ℕ) (s : List ℕ) (n i x : ℕ) → at ≤ length d → n ≤ length s → i < n → set (paste d at s n) (at + i) x ≡ paste d at (set s i x) n
paste_set d at s n i x hd hs hi =
    let la : length (take at d) ≡ at = length-take-le at d hd in
    let lb : length (take n s) ≡ n = length-take-le n s hs in
    set-append_left (take at d ++ take n s) (drop (at + n) d) (at + i) x (rw (length-append, la, lb) (omega arith))
    ∙ ap (λ (r : List ℕ). r ++ drop (at + n) d)
    (ap (λ (m : ℕ). set (take at d ++ take n s) (m + i) x) (sym la) ∙ set-behind (take at d) (take n s) i x ∙ ap (λ (r : List ℕ). take at d ++ r) (sym (take-set-lt n s i x hi)))
