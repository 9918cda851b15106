-- Looking through a row: each of it is a person, and what the library looks for there is what the table means.
use mathlib.Core.Path.{◌≡◌, refl}
use mathlib.Core.Bool.{Bool, true, false, ◌||◌, cond}
use mathlib.Core.List.Memᴰ
use mathlib.Core.List.{List, [], ◌∷◌}
use Prim.Native.Nat.{ℕ, zero, suc, ◌<◌}
use native.Mathlib.Omega.{arith}
use lib.Dec.{eqb}
use lib.ListN.{length, get_or}
use Rattle.std.specs.List.{list_any}
use Rattle.ways.specs.Graph.{◌∈◌}
use Rattle.compact.specs.Compact.{persons, graph_of, Compact}
use Rattle.compact.proofs.Rows.{row_people}
use Rattle.distance.specs.Table.{anybody}

stands_in : (l : List ℕ) (i d : ℕ) → i < length l → get_or l i d ∈ l
stands_in [] i d h = absurd (omega arith)
stands_in (x ∷ l) zero d h = Memᴰ.head refl
stands_in (x ∷ l) (suc i) d h = Memᴰ.tail (stands_in l i d (omega arith))

-- whoever stands at a place of a row is a person
pub row_person : {starts targets : List ℕ} (p i d : ℕ) → Compact starts targets → p < persons → i < length (graph_of starts targets p) → get_or (graph_of starts targets p) i d < persons
row_person {starts} {targets} p i d k h l = row_people p k h (stands_in (graph_of starts targets p) i d l)

-- some cell of a row holds h, where the library looks, and where the table's definition does
pub any_anybody : (cells : List ℕ) (h : ℕ) (row : List ℕ) → list_any (λ (v : ℕ). eqb (get_or cells v 0) h) row ≡ anybody cells h row
unfolding anybody
any_anybody cells h [] = refl
any_anybody cells h (v ∷ row) = go (eqb (get_or cells v 0) h) (any_anybody cells h row)
  where
    go : (t : Bool) {a b : Bool} → a ≡ b → (t || a) ≡ cond t true b
    go true e = refl
    go false e = e
