-- The fewest hops to the end person. Definitions only.
-- "Fewest hops: from any person p to To over admitted links, at most k, else k+1. To itself answers 0."
use Rattle.std.specs.Prelude.{◌≡◌, cond, List, [], ◌∷◌, map, ℕ, zero, suc, ◌≤◌, ◌<◌, min, eqb}
use Rattle.ways.specs.Graph.{Graph, ◌∈◌}

-- p reaches t within h hops; a way may pass a person twice, and From too
pub data Reach (g : Graph) (t : ℕ) : ℕ → ℕ → Type 0 where
  here : {h p : ℕ} → p ≡ t → Reach g t h p
  link : {h p v : ℕ} → v ∈ g p → Reach g t h v → Reach g t (suc h) p

-- d is the fewest hops from p to t
pub record Fewest (g : Graph) (t d p : ℕ) : Type 0 where
  pub reach : Reach g t d p
  pub least : (j : ℕ) → j < d → ¬ Reach g t j p

-- d is the fewest hops from p to t, "at most k, else k+1"
pub record FewestUpTo (g : Graph) (t k d p : ℕ) : Type 0 where
  pub cap : d ≤ suc k
  pub reach : d ≤ k → Reach g t d p
  pub least : (j : ℕ) → j < d → ¬ Reach g t j p

-- the lowest of the numbers, and no more than cap
abbrev pub lowest : ℕ → List ℕ → ℕ
lowest cap [] = cap
lowest cap (d ∷ ds) = min d (lowest cap ds)

-- the same as a number that can be computed: To itself answers 0, another one more than the lowest over that person's links
unfoldable pub fewest : Graph → ℕ → ℕ → ℕ → ℕ
fewest g t zero p = cond (eqb p t) 0 1
fewest g t (suc k) p = cond (eqb p t) 0 (suc (lowest (suc k) (map (fewest g t k) (g p))))
