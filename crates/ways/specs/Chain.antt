-- What a chain is, with no word of how chains are found. Definitions only.
-- "A chain is a sequence of 2 to k+1 different persons, first From, last To, each next one reached by an admitted link."
use Rattle.std.specs.Prelude.{◌≡◌, List, [], ◌∷◌, ℕ, ◌≤◌, length}
use Rattle.ways.specs.Graph.{Graph, ◌∈◌}

-- "first From": s is the first of c
abbrev pub First : ℕ → List ℕ → Type 0
First s [] = ⊥
First s (p ∷ c) = p ≡ s

-- "last To": t is the last of c
abbrev pub Last : ℕ → List ℕ → Type 0
Last t [] = ⊥
Last t (p ∷ []) = p ≡ t
Last t (p ∷ q ∷ c) = Last t (q ∷ c)

-- "each next one reached by an admitted link"
abbrev pub Linked : Graph → List ℕ → Type 0
Linked g [] = Unit {0}
Linked g (p ∷ []) = Unit {0}
Linked g (p ∷ q ∷ c) = (q ∈ g p) × Linked g (q ∷ c)

-- "different persons": nobody stands in c twice
abbrev pub Distinct : {A : Type 0} → List A → Type 0
Distinct [] = Unit {0}
Distinct (p ∷ c) = ¬ (p ∈ c) × Distinct c

-- the persons behind the first
abbrev pub behind : List ℕ → List ℕ
behind [] = []
behind (p ∷ c) = c

-- the hops: one fewer than the persons
abbrev pub hops : List ℕ → ℕ
hops [] = 0
hops (p ∷ c) = length c

-- c is a chain from s to t of at most k hops; "2 to k+1" persons are 1 to k hops
pub record Chain (g : Graph) (s t k : ℕ) (c : List ℕ) : Type 0 where
  pub first : First s c
  pub last : Last t c
  pub linked : Linked g c
  pub once : Distinct c
  pub some : 1 ≤ hops c
  pub few : hops c ≤ k
