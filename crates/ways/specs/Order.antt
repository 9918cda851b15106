-- Dictionary order, and lists that rise in an order. Definitions only.
-- "Dictionary order compares the person numbers from the left."
use Rattle.std.specs.Prelude.{◌≡◌, Bool, true, false, cond, List, [], ◌∷◌, ℕ, ◌<◌, eqb, ltb}
use Rattle.ways.specs.Graph.{◌∈◌}

-- a stands before b: at the first place where they differ a has the smaller number, or a has ended
pub data Before : List ℕ → List ℕ → Type 0 where
  short : {y : ℕ} {b : List ℕ} → Before [] (y ∷ b)
  less : {x y : ℕ} {a b : List ℕ} → x < y → Before (x ∷ a) (y ∷ b)
  same : {x y : ℕ} {a b : List ℕ} → x ≡ y → Before a b → Before (x ∷ a) (y ∷ b)

-- the same as a test that computes
unfoldable pub before : List ℕ → List ℕ → Bool
before a [] = false
before [] (y ∷ b) = true
before (x ∷ a) (y ∷ b) = cond (ltb x y) true (cond (eqb x y) (before a b) false)

-- l rises strictly: each of l stands before all that follow it
abbrev pub Rising : {A : Type 0} → (A → A → Type 0) → List A → Type 0
Rising R [] = Unit {0}
Rising R (x ∷ l) = ((y : _) → y ∈ l → R x y) × Rising R l
