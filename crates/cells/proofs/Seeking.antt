-- A person among cells: what the library says of a slice, in the words of the graph.
use mathlib.Core.Path.{◌≡◌, refl, sym}
use mathlib.Core.List.{List, [], ◌∷◌}
use mathlib.Core.Logic.{⊎_elim}
use Prim.Native.Nat.{ℕ}
use lib.Dec.{eqb}
use Rattle.std.specs.List.{list_any}
use borrow.Author.Tests.{eq-eqb, ne_eqb}
use Rattle.ways.specs.Graph.{among}
use Rattle.ways.proofs.Cases.{same_or_not}

-- some cell is the person, where the library looks, and where the definition does
pub contains_among : (person : ℕ) (cells : List ℕ) → list_any (λ (c : ℕ). eqb c person) cells ≡ among person cells
unfolding among
contains_among person [] = refl
contains_among person (c ∷ cells) =
    ⊎_elim
    (λ e. rw (eq-eqb person c e, eq-eqb c person (sym e)) refl)
    (λ n. rw (ne_eqb person c n, ne_eqb c person (λ e. n (sym e))) (contains_among person cells))
    (same_or_not person c)
