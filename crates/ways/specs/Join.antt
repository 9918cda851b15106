-- Joining half chains. Definitions only.
-- "A chain of L hops splits at one place only: the left half has L/2 hops rounded up, the right half the rest, and they share only the middle person."
use Rattle.std.specs.Prelude.{◌≡◌, Bool, true, false, cond, ℕ, zero, suc, ◌+◌, ◌-◌, ◌/◌, eqb}
use mathlib.Core.List.{List, [], ◌∷◌, ◌++◌, map, flat_map}
use Rattle.ways.specs.Graph.{Graph, ◌∈◌, among, keep}
use Rattle.ways.specs.Chain.{First, Last, Linked, Distinct, hops}
use Rattle.ways.specs.Portions.{last_or}
use Rattle.ways.specs.Halves.{HalfChain, all_half_chains}

-- "L/2 hops rounded up"
abbrev pub left_hops : ℕ → ℕ
left_hops L = (L + 1) / 2

-- "the rest"
abbrev pub right_hops : ℕ → ℕ
right_hops L = L - left_hops L

-- l is a left half of exactly i hops: a simple sequence of admitted links that starts at From
pub record LeftHalf (g : Graph) (s i : ℕ) (l : List ℕ) : Type 0 where
  pub first : First s l
  pub linked : Linked g l
  pub once : Distinct l
  pub exactly : hops l ≡ i

-- all simple sequences of exactly i hops on from p that pass nobody seen and end as the test says, in dictionary order
unfoldable pub onward : Graph → (ℕ → Bool) → ℕ → List ℕ → ℕ → List (List ℕ)
onward g ends zero seen p = cond (ends p) ([] ∷ []) []
onward g ends (suc i) seen p = flat_map (λ v. cond (among v seen) [] (map (◌∷◌ v) (onward g ends i (v ∷ seen) v))) (g p)

-- the left halves of exactly i hops, in dictionary order: they may end anywhere
unfoldable pub left_halves : Graph → ℕ → ℕ → List (List ℕ)
left_halves g s i = map (◌∷◌ s) (onward g (λ p. true) i (s ∷ []) s)

-- "they share only the middle person": h starts where l ends, and nobody behind that person stands in l
abbrev pub Meets : List ℕ → List ℕ → Type 0
Meets l [] = ⊥
Meets l (m ∷ h) = Last m l × ((x : ℕ) → x ∈ h → ¬ (x ∈ l))

-- whether nobody of a stands in b
unfoldable pub none_among : List ℕ → List ℕ → Bool
none_among [] b = true
none_among (x ∷ a) b = cond (among x b) false (none_among a b)

-- the same as a test that computes
unfoldable pub meets : List ℕ → List ℕ → Bool
meets l [] = false
meets [] (m ∷ h) = false
meets (p ∷ l) (m ∷ h) = cond (eqb (last_or p l) m) (none_among h (p ∷ l)) false

-- the two halves put together: the middle person stands once
abbrev pub glue : List ℕ → List ℕ → List ℕ
glue l [] = l
glue l (m ∷ h) = l ++ h

-- c, of L hops, splits into l and h
pub record Split (g : Graph) (s t L : ℕ) (l h c : List ℕ) : Type 0 where
  pub left : LeftHalf g s (left_hops L) l
  pub right : HalfChain g s t (right_hops L) h
  pub middle : Meets l h
  pub whole : glue l h ≡ c

-- left halves in dictionary order, each with its right halves in dictionary order
unfoldable pub joined : Graph → ℕ → ℕ → ℕ → ℕ → List (List ℕ)
joined g n s t L = flat_map (λ l. map (glue l) (keep (meets l) (all_half_chains g n s t (right_hops L)))) (left_halves g s (left_hops L))
