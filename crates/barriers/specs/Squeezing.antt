-- Squeezing the trail: in a stretch of it only the first entry of a person leads back, since the last are put back first. Definitions only.
use Rattle.std.specs.Prelude.{◌≡◌, Bool, true, false, List, [], map, ◌⊎◌, ℕ, ◌+◌, ◌/◌, ◌%◌, ◌≤◌, ◌<◌, length, get_or, set, take}
use Rattle.std.proofs.Math.Seq.{slice}
use Rattle.ways.specs.Graph.{◌∈◌}
use Rattle.compact.specs.Compact.{persons}
use Rattle.barriers.specs.Trail.{heights, unwind, Entries}

-- no barrier reaches 16
abbrev pub Flat : List ℕ → Type 0
Flat barriers = (v : ℕ) → get_or barriers v 0 < heights

-- the trail ends at n now, and is as it was up to the stretch; where the barriers have heights, it leads back to the same, from any barriers
pub record Shorter (barriers trail trail' : List ℕ) (low high n : ℕ) : Type 0 where
  pub rise : low ≤ n
  pub fits : n ≤ length trail'
  pub long : length trail' ≡ length trail
  pub keeps : take low trail' ≡ take low trail
  pub entries : Entries trail' low n
  pub back : Flat barriers → (bs : List ℕ) → unwind (slice low n trail') bs ≡ unwind (slice low high trail) bs

-- and each barrier that has a height is as it was
pub record Squeezed (barriers barriers' trail trail' : List ℕ) (low high n : ℕ) : Type 0 where
  pub wide : length barriers' ≡ persons
  pub same : (v : ℕ) → get_or barriers v 0 < heights → get_or barriers' v 0 ≡ get_or barriers v 0
  pub shorter : Shorter barriers trail trail' low high n

-- ---- for this room alone

-- the persons of the entries
abbrev pub persons_in : List ℕ → List ℕ
persons_in es = map (λ (e : ℕ). e / heights) es

-- a person met is marked: 16, which no barrier reaches, is added to that person's barrier. Whoever has 16 or more was met, or had so much before
pub record Marked (barriers₀ barriers met : List ℕ) : Type 0 where
  pub wide : length barriers ≡ persons
  pub under : (v : ℕ) → get_or barriers v 0 % heights ≡ get_or barriers₀ v 0 % heights
  pub told : (v : ℕ) → heights ≤ get_or barriers v 0 → (v ∈ met) ⊎ (heights ≤ get_or barriers₀ v 0)

-- whether an entry is the first of its person: then that person is marked now, else it was before
pub record First (barriers barriers' : List ℕ) (entry : ℕ) (b : Bool) : Type 0 where
  pub first : b ≡ true → (get_or barriers (entry / heights) 0 < heights) × (barriers' ≡ set barriers (entry / heights) (get_or barriers (entry / heights) 0 + heights))
  pub again : b ≡ false → (heights ≤ get_or barriers (entry / heights) 0) × (barriers' ≡ barriers)

-- the first entries are kept, and their persons are marked
pub record FirstsKept (barriers barriers' trail trail' : List ℕ) (low high n : ℕ) : Type 0 where
  pub marked : Marked barriers barriers' (persons_in (slice low n trail'))
  pub shorter : Shorter barriers trail trail' low high n

-- the marks of the entries' persons are gone, whatever the barriers under them
pub record Unmarked (barriers barriers' trail : List ℕ) (low n : ℕ) : Type 0 where
  pub plain : {barriers₀ : List ℕ} → Marked barriers₀ barriers (persons_in (slice low n trail)) → Marked barriers₀ barriers' []
