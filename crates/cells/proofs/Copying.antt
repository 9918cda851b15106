-- Copying over all cells of a list leaves nothing of what stood there.
use mathlib.Core.Path.{◌≡◌, sym, ap, ◌∙◌}
use mathlib.Core.List.{List, ◌++◌, append-nil}
use Prim.Native.Nat.{ℕ}
use lib.ListN.{length, take, drop}
use lib.Seq.{paste, drop-length}
use native.Mathlib.Nat.{zero-add}

-- copied over all cells
pub paste_whole : (out s : List ℕ) (n : ℕ) → length out ≡ n → paste out 0 s n ≡ take n s
paste_whole out s n e =
    ap (λ (k : ℕ). take n s ++ drop k out) (zero-add n ∙ sym e)
    ∙ ap (λ (r : List ℕ). take n s ++ r) (drop-length out)
    ∙ append-nil (take n s)
