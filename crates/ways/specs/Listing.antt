-- The listing, as a list that can be computed. Definitions only.
-- It is the customer's list: `exact`, `ordered` and `determined` in proofs/ tie it to the customer's words.
use Rattle.std.specs.Prelude.{cond, ℕ, zero, suc, eqb}
use mathlib.Core.List.{List, [], ◌∷◌, map, flat_map}
use Rattle.ways.specs.Graph.{Graph, among}

-- what may follow when v is the next person: the end, nothing if v is seen already, or v and what follows v
unfoldable pub by : ℕ → List ℕ → (List ℕ → ℕ → List (List ℕ)) → ℕ → List (List ℕ)
by t seen on v = cond (eqb v t) ((v ∷ []) ∷ []) (cond (among v seen) [] (map (◌∷◌ v) (on (v ∷ seen) v)))

-- what may follow p: each way on to t in at most k hops that passes nobody seen
unfoldable pub ways : Graph → ℕ → ℕ → List ℕ → ℕ → List (List ℕ)
ways g t zero seen p = []
ways g t (suc k) seen p = flat_map (by t seen (ways g t k)) (g p)

-- the chains from s to t of at most k hops, in dictionary order
unfoldable pub listing : Graph → ℕ → ℕ → ℕ → List (List ℕ)
listing g s t k = map (◌∷◌ s) (ways g t k (s ∷ []) s)
