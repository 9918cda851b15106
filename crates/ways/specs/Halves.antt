-- Half chains. Definitions only.
-- "half chains are the simple admitted sequences of 0 to k/2 hops (rounded down) ending at To and not visiting From, also (To) alone."
use Rattle.std.specs.Prelude.{◌≡◌, Bool, true, false, cond, ℕ, zero, suc, ◌/◌, length, eqb, leb}
use mathlib.Core.List.{List, [], ◌∷◌, ◌++◌, map, flat_map}
use Rattle.ways.specs.Graph.{Graph, ◌∈◌, among, keep}
use Rattle.ways.specs.Chain.{Last, Linked, Distinct, hops}
use Rattle.ways.specs.Records.{room_of}
use Rattle.ways.specs.ByHops.{shorter_first}

-- h is a half chain of exactly j hops
pub record HalfChain (g : Graph) (s t j : ℕ) (h : List ℕ) : Type 0 where
  pub last : Last t h
  pub linked : Linked g h
  pub once : Distinct h
  pub apart : ¬ (s ∈ h)
  pub exactly : hops h ≡ j

-- the persons of a file that has n, rising
unfoldable pub persons_below : ℕ → List ℕ
persons_below zero = []
persons_below (suc n) = persons_below n ++ (n ∷ [])

-- whether p may stand in front of h: a link of p leads to the first of h, and p does not stand in h
unfoldable pub extends : Graph → ℕ → List ℕ → Bool
extends g p [] = false
extends g p (q ∷ h) = cond (among q (g p)) (cond (among p (q ∷ h)) false true) false

-- "Half chains are built by a recursion on their hops": those of exactly j hops, in dictionary order.
-- (To) alone has no hop; for one hop more, each person but From is put in front of those before whom that person may stand.
unfoldable pub all_half_chains : Graph → ℕ → ℕ → ℕ → ℕ → List (List ℕ)
all_half_chains g n s t zero = (t ∷ []) ∷ []
all_half_chains g n s t (suc j) = flat_map (λ p. cond (eqb p s) [] (map (◌∷◌ p) (keep (extends g p) (all_half_chains g n s t j)))) (persons_below n)

-- all of them for a question of k hops: "shorter first, then in dictionary order"
abbrev pub halves : Graph → ℕ → ℕ → ℕ → ℕ → List (List ℕ)
halves g n s t k = shorter_first (all_half_chains g n s t) (k / 2)

-- refusal 18, turned round: so many working cells hold as many records as there are half chains
abbrev pub halves_fit : ℕ → ℕ → List (List ℕ) → Bool
halves_fit size cells H = leb (length H) (room_of size cells)
