-- A part of a list, from one place up to but without another: as the words of this house take it, and as the library does.
use mathlib.Core.Path.{◌≡◌, sym, ap, ◌∙◌}
use mathlib.Core.List.{List}
use Prim.Native.Nat.{ℕ, ◌+◌, ◌-◌, ◌≤◌}
use lib.ListN.{take, drop}
use lib.Seq.{slice}
use native.Mathlib.Omega.{arith}
use Rattle.std.proofs.lemmas.List.{drop-take}

pub part_slice : {X : Type 0} (from to : ℕ) (l : List X) → from ≤ to → take (to - from) (drop from l) ≡ slice from to l
part_slice {X} from to l h =
    let there : from + (to - from) ≡ to = omega arith in
    sym (drop-take from (to - from) l) ∙ ap (λ (t : ℕ). drop from (take t l)) there
