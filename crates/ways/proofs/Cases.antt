-- Cases of numbers.
use mathlib.Core.Path.{◌≡◌, refl}
use mathlib.Core.Bool.{Bool, true, false}
use mathlib.Core.Logic.{◌⊎◌, inl, inr}
use Prim.Native.Nat.{ℕ, ◌≤◌, ◌<◌}
use native.Mathlib.Decide.{ℕ_discrete}
use lib.Dec.{ltb}
use borrow.Author.Tests.{ltb-true, ltb-false}

pub same_or_not : (u v : ℕ) → (u ≡ v) ⊎ (u ≡ v → ⊥)
same_or_not u v = to (ℕ_discrete u v)
  where
    to : Dec (u ≡ v) → (u ≡ v) ⊎ (u ≡ v → ⊥)
    to (yes e) = inl e
    to (no n) = inr n

pub lt_or_le : (a b : ℕ) → (a < b) ⊎ (b ≤ a)
lt_or_le a b = go (ltb a b) refl
  where
    go : (c : Bool) → ltb a b ≡ c → (a < b) ⊎ (b ≤ a)
    go true e = inl (ltb-true a b e)
    go false e = inr (ltb-false a b e)
