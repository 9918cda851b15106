-- Barriers: when they hold, and what may become of them. Definitions only.
use Rattle.std.specs.Prelude.{◌≡◌, List, [], ◌∷◌, ◌⊎◌, ℕ, ◌≤◌, ◌<◌, length, get_or}
use Rattle.ways.specs.Graph.{Graph, ◌∈◌}
use Rattle.ways.specs.Listing.{ways}
use Rattle.compact.specs.Compact.{persons}
use Rattle.barriers.specs.Trail.{heights, Trailed}

-- Sound: from v there is no way to t in fewer hops than v's barrier that passes nobody seen.
-- Near: whoever is not t has a barrier, and one of 1 only if t is next to that person.
pub record Hold (g : Graph) (t : ℕ) (seen barriers : List ℕ) : Type 0 where
  pub long : length barriers ≡ persons
  pub low : (v : ℕ) → get_or barriers v 0 < heights
  pub sound : (v j : ℕ) → j < get_or barriers v 0 → ways g t j (v ∷ seen) v ≡ []
  pub far : (v : ℕ) → v < persons → (v ≡ t → ⊥) → 1 ≤ get_or barriers v 0
  pub near : (v : ℕ) → v < persons → (v ≡ t → ⊥) → get_or barriers v 0 ≤ 1 → t ∈ g v

-- each barrier is as it was, or at most so high
pub record Kept (most : ℕ) (barriers barriers' : List ℕ) : Type 0 where
  pub each : (v : ℕ) → (get_or barriers' v 0 ≡ get_or barriers v 0) ⊎ (get_or barriers' v 0 ≤ most)

-- what becomes of the barriers: they hold, none that is new is high, and the trail leads back
pub record Barred (g : Graph) (t : ℕ) (seen : List ℕ) (most : ℕ) (barriers barriers' trail trail' : List ℕ) (n n' : ℕ) : Type 0 where
  pub hold : Hold g t seen barriers'
  pub kept : Kept most barriers barriers'
  pub trailed : Trailed trail n barriers trail' n' barriers'
