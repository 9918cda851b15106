-- Persons and the links between them. Definitions only.
use Rattle.std.specs.Prelude.{Bool, true, false, cond, ℕ, eqb}
use mathlib.Core.List.{List, [], ◌∷◌, Memᴰ}

-- the persons that a person's admitted links lead to. A law that needs these rows to rise, or the persons to be below n, says so.
abbrev pub Graph : Type 0
Graph = ℕ → List ℕ

infix 50 ◌∈◌
-- x stands in l
abbrev pub ◌∈◌ {ℓ} : {A : Type ℓ} → A → List A → Type ℓ
x ∈ l = Memᴰ x l

-- whether p is among the persons
unfoldable pub among : ℕ → List ℕ → Bool
among p [] = false
among p (q ∷ qs) = cond (eqb p q) true (among p qs)

-- those of l that pass the test
unfoldable pub keep : {A : Type 0} → (A → Bool) → List A → List A
keep f [] = []
keep f (x ∷ l) = cond (f x) (x ∷ keep f l) (keep f l)
