-- The ways from a person on, as a predicate; and that `ways` lists just those.
use mathlib.Core.Path.{◌≡◌, refl, subst}
use mathlib.Core.Logic.{◌≢◌, ◌⊎◌, inl, inr}
use mathlib.Core.Bool.{Bool, true, false, cond}
use mathlib.Core.List.Memᴰ
use mathlib.Core.List.{List, [], ◌∷◌, map, flat_map}
use Prim.Native.Nat.{ℕ, zero, suc, ◌-◌, ◌≤◌}
use native.Mathlib.Omega.{arith}
use native.Mathlib.Numerals.{sub-one}
use lib.Dec.{eqb}
use borrow.Author.Tests.{eqb-true, eqb-false, eq-eqb, ne_eqb}
use Rattle.ways.specs.Graph.{Graph, ◌∈◌, among}
use Rattle.ways.specs.Listing.{by, ways}
use Rattle.ways.proofs.Members.{flat_map_in, flat_map_from, among_false, out_among, nobody}

-- w leads on from p to t in at most k hops; nobody seen stands in it but perhaps t, and t stands at its end only
pub data Way (g : Graph) (t : ℕ) : ℕ → List ℕ → ℕ → List ℕ → Type 0 where
  ends : {k p v : ℕ} {seen : List ℕ} → v ∈ g p → v ≡ t → Way g t (suc k) seen p (v ∷ [])
  goes : {k p v : ℕ} {seen w : List ℕ} → v ∈ g p → v ≢ t → ¬ (v ∈ seen) → Way g t k (v ∷ seen) v w → Way g t (suc k) seen p (v ∷ w)

-- what stands in `by`
pub by_end : {t v : ℕ} (seen : List ℕ) (on : List ℕ → ℕ → List (List ℕ)) → v ≡ t → (v ∷ []) ∈ by t seen on v
unfolding by
by_end {t} {v} seen on e = rw (eq-eqb v t e) (Memᴰ.head refl)

pub by_on : {t v : ℕ} {seen : List ℕ} (on : List ℕ → ℕ → List (List ℕ)) {w : List ℕ} → v ≢ t → ¬ (v ∈ seen) → w ∈ on (v ∷ seen) v → (v ∷ w) ∈ by t seen on v
unfolding by
by_on {t} {v} on n o m = rw (ne_eqb v t n, out_among o) (Memᴰ.map (◌∷◌ v) m)

-- each member of `by` is of one of the two kinds
By : ℕ → ℕ → List ℕ → (List ℕ → ℕ → List (List ℕ)) → List ℕ → Type 0
By t v seen on y = ((v ≡ t) × (y ≡ v ∷ [])) ⊎ ((v ≢ t) × (¬ (v ∈ seen)) × (w : List ℕ) × (w ∈ on (v ∷ seen) v) × (v ∷ w ≡ y))

by_from : (t v : ℕ) (seen : List ℕ) (on : List ℕ → ℕ → List (List ℕ)) {y : List ℕ} → y ∈ by t seen on v → By t v seen on y
unfolding by By
by_from t v seen on {y} m = go (eqb v t) (among v seen) refl refl m
  where
    go : (b c : Bool) → eqb v t ≡ b → among v seen ≡ c → y ∈ cond b ((v ∷ []) ∷ []) (cond c [] (map (◌∷◌ v) (on (v ∷ seen) v))) → By t v seen on y
    go true c h i m = inl (eqb-true v t h, Memᴰ.eq_of_singleton m)
    go false true h i m = absurd (Memᴰ.not-nil m)
    go false false h i m = let r = Memᴰ.of_map (◌∷◌ v) (on (v ∷ seen) v) m in inr (eqb-false v t h, among_false i, r.0, r.1, r.2)

-- `ways` lists just the ways
pub way_in : {g : Graph} {t k p : ℕ} {seen w : List ℕ} → Way g t k seen p w → w ∈ ways g t k seen p
unfolding ways
way_in {g} {t} (ends {k = k} {seen = seen} m e) = flat_map_in _ m (by_end seen (ways g t k) e)
way_in {g} {t} (goes {k = k} m n o r) = flat_map_in _ m (by_on (ways g t k) n o (way_in r))

pub way_from : (g : Graph) (t k p : ℕ) (seen : List ℕ) {w : List ℕ} → w ∈ ways g t k seen p → Way g t k seen p w
unfolding ways By
way_from g t zero p seen m = absurd (Memᴰ.not-nil m)
way_from g t (suc k) p seen {w} m = step (λ v u n. way_from g t k v (v ∷ seen) n) (flat_map_from (by t seen (ways g t k)) (g p) m)
  where
    On : Type 0
    On = (v : ℕ) (u : List ℕ) → u ∈ ways g t k (v ∷ seen) v → Way g t k (v ∷ seen) v u

    last : (v : ℕ) → v ∈ g p → By t v seen (ways g t k) w → On → Way g t (suc k) seen p w
    last v m (inl r) on = rw r.1 (ends m r.0)
    last v m (inr r) on = subst (λ y. Way g t (suc k) seen p y) r.4 (goes m r.0 r.1 (on v r.2 r.3))

    step : On → (v : ℕ) × (v ∈ g p) × (w ∈ by t seen (ways g t k) v) → Way g t (suc k) seen p w
    step on r = last r.0 r.1 (by_from t r.0 seen (ways g t k) r.2) on

-- no way, and an empty list of ways
pub no_way : {g : Graph} {t k p : ℕ} {seen : List ℕ} → ways g t k seen p ≡ [] → (w : List ℕ) → ¬ Way g t k seen p w
no_way e w r = Memᴰ.not-nil (subst (λ l. w ∈ l) e (way_in r))

pub none : (g : Graph) (t k p : ℕ) (seen : List ℕ) → ((w : List ℕ) → ¬ Way g t k seen p w) → ways g t k seen p ≡ []
none g t k p seen n = nobody (ways g t k seen p) (λ w m. n w (way_from g t k p seen m))

-- by the links of a person
pub ways-links : (g : Graph) (t k : ℕ) (seen : List ℕ) (p : ℕ) → 1 ≤ k → ways g t k seen p ≡ flat_map (by t seen (ways g t (k - 1))) (g p)
unfolding ways
ways-links g t zero seen p h = absurd (omega arith)
ways-links g t (suc k) seen p h = rw sub-one
