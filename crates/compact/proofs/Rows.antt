-- A row of the compact graph: what stands in it, and that it is empty for whoever is no person.
use mathlib.Core.Path.{◌≡◌, ap, subst, ◌∙◌}
use mathlib.Core.Logic.{◌⊎◌, inl, inr}
use mathlib.Core.List.Memᴰ
use mathlib.Core.List.{List, []}
use Prim.Native.Nat.{ℕ, zero, suc, ◌+◌, ◌-◌, ◌≤◌, ◌<◌}
use lib.ListN.{length, get_or, get_or-eq_default}
use lib.Seq.{slice, slice-cons, slice_empty, drop-nil}
use native.Mathlib.Omega.{arith}
use Rattle.ways.specs.Graph.{◌∈◌}
use Rattle.compact.specs.Compact.{persons, graph_of, Compact}

-- whoever is no person has no links
pub row_none : {rows targets : List ℕ} (p : ℕ) → Compact rows targets → persons ≤ p → graph_of rows targets p ≡ []
row_none {rows} {targets} p k h =
    ap (λ (e : ℕ). slice (get_or rows p 0) e targets) (get_or-eq_default rows 0 {n = p + 1} (omega (arith, k.starts)))
    ∙ drop-nil (get_or rows p 0)

-- each of a part of l has a place there
pub slice_place : (n f t : ℕ) (l : List ℕ) {v : ℕ} → f + n ≡ t → t ≤ length l → v ∈ slice f t l → (i : ℕ) × (f ≤ i) × (i < t) × (v ≡ get_or l i 0)
slice_place zero f t l {v} e h m = let s : f ≡ t = omega arith in absurd (Memᴰ.not-nil (subst (λ s. v ∈ s) (slice_empty t l) (rw s at m)))
slice_place (suc n) f t l {v} e h m = go (Memᴰ.cases_cons (subst (λ s. v ∈ s) (slice-cons f t l 0 (omega arith) h) m)) (λ q. slice_place n (suc f) t l (omega arith) h q)
  where
    Place : ℕ → Type 0
    Place g = (i : ℕ) × (g ≤ i) × (i < t) × (v ≡ get_or l i 0)

    go : (v ≡ get_or l f 0) ⊎ (v ∈ slice (suc f) t l) → (v ∈ slice (suc f) t l → Place (suc f)) → Place f
    go (inl q) on = (f, omega arith, omega arith, q)
    go (inr q) on = let r = on q in (r.0, omega arith, r.2, r.3)

-- each target of a row is a person
pub row_people : {rows targets : List ℕ} (p : ℕ) {v : ℕ} → Compact rows targets → p < persons → v ∈ graph_of rows targets p → v < persons
row_people {rows} {targets} p {v} k h m =
    let r = slice_place (get_or rows (p + 1) 0 - get_or rows p 0) (get_or rows p 0) (get_or rows (p + 1) 0) targets (omega (arith, k.rise p h)) (k.ends p h) m in
    rw r.3 (k.people r.0 (omega (arith, k.ends p h)))
