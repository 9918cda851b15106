-- Paths over admitted links, in the customer's words and with no word of graphs. Definitions only.
use Rattle.std.specs.Prelude.{◌≡◌, List, [], ◌∷◌, ℕ, ◌+◌, ◌/◌, ◌≤◌, length}
use Rattle.ways.specs.Graph.{◌∈◌}
use Rattle.ways.specs.Chain.{First, Last, Distinct, hops}
use Rattle.ways.specs.Ring.{others}
use Rattle.question.specs.declared.Question.{Question}
use Rattle.question.specs.Admission.{AdmittedLink}

-- "each next one reached by an admitted link"
abbrev pub Reached : List ℕ → Question → List ℕ → Type 0
Reached file q [] = Unit {0}
Reached file q (p ∷ []) = Unit {0}
Reached file q (p ∷ v ∷ c) = AdmittedLink file q p v × Reached file q (v ∷ c)

-- "A chain is a sequence of 2 to k+1 different persons, first From, last To, each next one reached by an admitted link."
pub record SimplePath (file : List ℕ) (q : Question) (c : List ℕ) : Type 0 where
  pub some : 2 ≤ length c
  pub few : length c ≤ q.hops + 1
  pub different : Distinct c
  pub first : First q.from c
  pub last : Last q.to c
  pub reached : Reached file q c

-- "2 to k admitted hops, starting and ending at that person, all others different from it and each other": that person is From, who is To too
pub record RingPath (file : List ℕ) (q : Question) (c : List ℕ) : Type 0 where
  pub some : 2 ≤ hops c
  pub few : hops c ≤ q.hops
  pub first : First q.from c
  -- "A record repeats the person at its end."
  pub last : Last q.from c
  pub apart : ¬ (q.from ∈ others c)
  pub different : Distinct (others c)
  pub reached : Reached file q c

-- "half chains are the simple admitted sequences of 0 to k/2 hops (rounded down) ending at To and not visiting From"
pub record HalfPath (file : List ℕ) (q : Question) (h : List ℕ) : Type 0 where
  pub few : hops h ≤ q.hops / 2
  pub different : Distinct h
  pub last : Last q.to h
  pub apart : ¬ (q.from ∈ h)
  pub reached : Reached file q h

-- "from any person p to To over admitted links": a way may pass a person twice, and From too
pub record WayFrom (file : List ℕ) (q : Question) (p : ℕ) (w : List ℕ) : Type 0 where
  pub first : First p w
  pub last : Last q.to w
  pub reached : Reached file q w

-- "Fewest hops: from any person p to To over admitted links, at most k, else k+1. To itself answers 0."
-- up to k it is the hops of some way; no way of at most k hops has fewer, so there is none at all where it is k+1
pub record FewestFrom (file : List ℕ) (q : Question) (p d : ℕ) : Type 0 where
  pub most : d ≤ q.hops + 1
  pub way : d ≤ q.hops → (w : List ℕ) × WayFrom file q p w × (hops w ≡ d)
  pub least : (w : List ℕ) → WayFrom file q p w → hops w ≤ q.hops → d ≤ hops w
  pub to_itself : p ≡ q.to → d ≡ 0
