-- The trail: what barriers were before they were raised. Definitions only.
use Rattle.std.specs.Prelude.{◌≡◌, List, [], ◌∷◌, ◌⊎◌, ℕ, ◌*◌, ◌/◌, ◌%◌, ◌≤◌, ◌<◌, length, get_or, set, take}
use Rattle.std.proofs.Math.Seq.{slice}
use Rattle.compact.specs.Compact.{persons}

-- barriers are 0 to 15. An entry is the person times this and the barrier as it was
abbrev pub heights : ℕ
heights = 16

-- the old barriers put back, the last first
unfoldable pub unwind : List ℕ → List ℕ → List ℕ
unwind [] barriers = barriers
unwind (e ∷ es) barriers = set (unwind es barriers) (e / heights) (e % heights)

-- the entries from low up to high are those of persons
pub record Entries (trail : List ℕ) (low high : ℕ) : Type 0 where
  pub each : (i : ℕ) → low ≤ i → i < high → get_or trail i 0 < persons * heights

-- the trail leads back from the barriers now, when it has n entries, to those when it had n₀
pub record Trailed (trail₀ : List ℕ) (n₀ : ℕ) (barriers₀ trail : List ℕ) (n : ℕ) (barriers : List ℕ) : Type 0 where
  pub rise : n₀ ≤ n
  pub fits : n ≤ length trail
  pub long : length trail ≡ length trail₀
  pub keeps : take n₀ trail ≡ take n₀ trail₀
  pub entries : Entries trail n₀ n
  pub back : unwind (slice n₀ n trail) barriers ≡ barriers₀

-- what putting one barrier back asks
pub record Restorable (barriers : List ℕ) (entry : ℕ) : Type 0 where
  pub wide : length barriers ≡ persons
  pub person : entry < persons * heights

-- what undoing asks
pub record Undoable (barriers trail : List ℕ) (low high : ℕ) : Type 0 where
  pub wide : length barriers ≡ persons
  pub rise : low ≤ high
  pub fits : high ≤ length trail
  pub entries : Entries trail low high

-- what raising asks, and does: v has the new barrier, or nothing has changed
pub record Raising (barriers trail : List ℕ) (v barrier n : ℕ) : Type 0 where
  pub place : v < persons
  pub wide : length barriers ≡ persons
  pub old : get_or barriers v 0 < heights
  pub new : barrier < heights
  pub fits : n ≤ length trail

pub record Raised (barriers barriers' trail trail' : List ℕ) (v barrier n n' : ℕ) : Type 0 where
  pub only : (barriers' ≡ barriers) ⊎ (barriers' ≡ set barriers v barrier)
  pub trailed : Trailed trail n barriers trail' n' barriers'
