-- Settling the barriers when a person is left: what it asks, and what it promises. Definitions only.
use Rattle.std.specs.Prelude.{◌≡◌, Bool, true, List, [], ◌∷◌, ℕ, ◌+◌, ◌≤◌, ◌<◌, length, get_or}
use Rattle.ways.specs.Graph.{Graph}
use Rattle.ways.specs.Listing.{ways}
use Rattle.compact.specs.Compact.{persons}
use Rattle.barriers.specs.Trail.{heights, Entries}
use Rattle.barriers.specs.Barriers.{Hold, Barred}

-- v is a person, v's barrier and a new one have a height, and the trail holds the entries since v was entered
pub record Settling (barriers trail : List ℕ) (v left low high : ℕ) : Type 0 where
  pub place : v < persons
  pub wide : length barriers ≡ persons
  pub old : get_or barriers v 0 < heights
  pub new : left + 1 < heights
  pub rise : low ≤ high
  pub fits : high ≤ length trail
  pub entries : Entries trail low high

-- v is left, who was entered with some hops left: the barriers held then for those seen; and since then, while v was seen too, they hold,
-- none that is new is higher than those hops, and the trail leads back
pub record Leaving (g : Graph) (t : ℕ) (seen : List ℕ) (v left : ℕ) (barriers₀ barriers trail₀ trail : List ℕ) (low high : ℕ) : Type 0 where
  pub some : 1 ≤ left
  pub held : Hold g t seen barriers₀
  pub since : Barred g t (v ∷ seen) left barriers₀ barriers trail₀ trail low high

-- whatever the graph, To and those seen: the same for those seen, if there is no way on from v where it was said to be barren
pub record Settled (barriers barriers' trail trail' : List ℕ) (v left : ℕ) (barren : Bool) (low high n : ℕ) : Type 0 where
  pub barred : {g : Graph} {t : ℕ} {seen barriers₀ trail₀ : List ℕ} → Leaving g t seen v left barriers₀ barriers trail₀ trail low high
      → (barren ≡ true → ways g t left (v ∷ seen) v ≡ []) → Barred g t seen (left + 1) barriers₀ barriers' trail₀ trail' low n
