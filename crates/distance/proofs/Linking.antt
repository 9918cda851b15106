-- Going down from the last person: as long as nobody met has a link, all who have one stand before.
use mathlib.Core.Path.{◌≡◌}
use mathlib.Core.List.{[]}
use Prim.Native.Nat.{ℕ, ◌-◌, ◌≤◌, ◌<◌}
use native.Mathlib.Decide.{ℕ_discrete}
use native.Mathlib.Omega.{arith}
use Rattle.ways.specs.Graph.{Graph}
use Rattle.compact.specs.Compact.{persons}
use Rattle.distance.specs.Inside.{NobodyBehind}

pub linked_down : {g : Graph} {people : ℕ} → NobodyBehind g people → 0 < people → g (people - 1) ≡ [] → NobodyBehind g (people - 1)
linked_down {g} {people} n some empty = record { most = omega (arith, n.most); none = λ p l i. none p l i (ℕ_discrete p (people - 1)) }
  where
    none : (p : ℕ) → people - 1 ≤ p → p < persons → Dec (p ≡ people - 1) → g p ≡ []
    none p l i (yes e) = rw e empty
    none p l i (no d) = n.none p (omega (arith, l, d)) i
