-- What a ring is, and the rings of a person as a list. Definitions only.
-- "For one person, list every ring: 2 to k admitted hops, starting and ending at that person, all others different from it and each other."
use Rattle.std.specs.Prelude.{Bool, ℕ, ◌≤◌, leb}
use mathlib.Core.List.{List, drop_last}
use Rattle.ways.specs.Graph.{Graph, ◌∈◌, keep}
use Rattle.ways.specs.Chain.{First, Last, Linked, Distinct, behind, hops}
use Rattle.ways.specs.Listing.{listing}

-- "all others": the persons between the first and the last
abbrev pub others : List ℕ → List ℕ
others c = drop_last (behind c)

-- c is a ring of p of at most k hops
pub record Ring (g : Graph) (p k : ℕ) (c : List ℕ) : Type 0 where
  -- "starting and ending at that person"; "A record repeats the person at its end."
  pub first : First p c
  pub last : Last p c
  -- "admitted hops"
  pub linked : Linked g c
  -- "all others different from it"
  pub apart : ¬ (p ∈ others c)
  -- "and each other"
  pub once : Distinct (others c)
  -- "2 to k admitted hops"
  pub some : 2 ≤ hops c
  pub few : hops c ≤ k

-- whether there are two hops at least
abbrev pub two_hops : List ℕ → Bool
two_hops c = leb 2 (hops c)

-- the rings as a list that can be computed, in dictionary order: what comes back to p, less what does so after one hop.
-- It is the customer's list: `rings_exact`, `rings_ordered` and `rings_determined` in proofs/ tie it to the customer's words.
unfoldable pub rings : Graph → ℕ → ℕ → List (List ℕ)
rings g p k = keep two_hops (listing g p p k)
