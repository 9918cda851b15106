-- Simple sequences of exactly so many hops: the left halves; and the half chains, found from their first person on.
use mathlib.Core.Path.{◌≡◌, refl, sym, ap, subst}
use mathlib.Core.Logic.{◌≢◌, ◌⊎◌, inl, inr}
use mathlib.Core.Bool.{Bool, true, false, cond}
use mathlib.Core.List.Memᴰ
use mathlib.Core.List.{List, [], ◌∷◌, map, flat_map}
use Prim.Native.Nat.{ℕ, zero, suc, ◌<◌}
use native.Mathlib.Omega.{arith}
use lib.ListN.{length}
use lib.Dec.{eqb}
use borrow.Author.Tests.{eqb-true, eqb-false, eq-eqb, ne_eqb}
use Rattle.ways.specs.Graph.{Graph, ◌∈◌, among}
use Rattle.ways.specs.Chain.{Last, Linked, Distinct}
use Rattle.ways.specs.Order.{Before, Rising}
use Rattle.ways.specs.Portions.{last_or}
use Rattle.ways.specs.Halves.{HalfChain, persons_below, all_half_chains}
use Rattle.ways.specs.Join.{LeftHalf, onward, left_halves}
use Rattle.ways.proofs.Members.{flat_map_in, flat_map_from, among_false, out_among, out}
use Rattle.ways.proofs.Cut.{last_or_last, last_last_or}
use Rattle.ways.proofs.Rising.{only}
use Rattle.ways.proofs.Ordered.{before_asym, rising_map, unless_from, unless-row}
use Rattle.ways.proofs.Halves.{below_persons, persons_rising, all_half_chains_rising, all_half_chains_from, all_half_chains_in}

-- w leads on from p by exactly i hops, is simple, passes nobody seen, and ends as the test says
pub record Onward (g : Graph) (ends : ℕ → Bool) (i : ℕ) (seen : List ℕ) (p : ℕ) (w : List ℕ) : Type 0 where
  pub linked : Linked g (p ∷ w)
  pub once : Distinct w
  pub apart : (x : ℕ) → x ∈ w → ¬ (x ∈ seen)
  pub exactly : length w ≡ i
  pub ending : ends (last_or p w) ≡ true

module _ (g : Graph) (ends : ℕ → Bool) where
  pub onward_from : (i : ℕ) (seen : List ℕ) (p : ℕ) {w : List ℕ} → w ∈ onward g ends i seen p → Onward g ends i seen p w
  unfolding onward
  onward_from zero seen p {w} m = go (ends p) refl m
    where
      go : (b : Bool) → ends p ≡ b → w ∈ cond b ([] ∷ []) [] → Onward g ends 0 seen p w
      go true e m = subst (Onward g ends 0 seen p) (sym (Memᴰ.eq_of_singleton m)) (record { linked = tt; once = tt; apart = λ x i. absurd (Memᴰ.not-nil i); exactly = refl; ending = e })
      go false e m = absurd (Memᴰ.not-nil m)
  onward_from (suc i) seen p {w} m = step (λ v u n. onward_from i (v ∷ seen) v n) (flat_map_from _ (g p) m)
    where
      put : (v : ℕ) (u : List ℕ) → v ∈ g p → ¬ (v ∈ seen) → Onward g ends i (v ∷ seen) v u → Onward g ends (suc i) seen p (v ∷ u)
      put v u m o r = record { linked = (m, r.linked); once = (λ j. r.apart v j (Memᴰ.head refl), r.once); apart = λ x j. apart x (Memᴰ.cases_cons j); exactly = ap suc r.exactly; ending = r.ending }
        where
          apart : (x : ℕ) → (x ≡ v) ⊎ (x ∈ u) → ¬ (x ∈ seen)
          apart x (inl e) j = o (Memᴰ.cast (sym e) j)
          apart x (inr q) j = r.apart x q (Memᴰ.tail j)

      step : ((v : ℕ) (u : List ℕ) → u ∈ onward g ends i (v ∷ seen) v → Onward g ends i (v ∷ seen) v u)
          → (v : ℕ) × (v ∈ g p) × (w ∈ cond (among v seen) [] (map (◌∷◌ v) (onward g ends i (v ∷ seen) v))) → Onward g ends (suc i) seen p w
      step on q =
          let v = q.0 in
          let r = unless_from v (onward g ends i (v ∷ seen) v) (among v seen) q.2 in
          subst (Onward g ends (suc i) seen p) r.3 (put v r.1 q.1 (among_false r.0) (on v r.1 r.2))

  pub onward_in : (i : ℕ) (seen : List ℕ) (p : ℕ) (w : List ℕ) → Onward g ends i seen p w → w ∈ onward g ends i seen p
  unfolding onward
  onward_in zero seen p [] r = rw r.ending (Memᴰ.head refl)
  onward_in zero seen p (v ∷ w) r = absurd (omega arith)
  onward_in (suc i) seen p [] r = absurd (omega arith)
  onward_in (suc i) seen p (v ∷ w) r =
      let rest = onward_in i (v ∷ seen) v w (record { linked = r.linked.1; once = r.once.1; apart = λ x j. out (λ e. r.once.0 (Memᴰ.cast (sym e) j)) (r.apart x (Memᴰ.tail j)); exactly = omega arith; ending = r.ending }) in
      flat_map_in _ r.linked.0 (rw (out_among (r.apart v (Memᴰ.head refl))) (Memᴰ.map (◌∷◌ v) rest))

  pub onward_rising : ((p : ℕ) → Rising ◌<◌ (g p)) → (i : ℕ) (seen : List ℕ) (p : ℕ) → Rising Before (onward g ends i seen p)
  unfolding onward
  onward_rising rows zero seen p = go (ends p)
    where
      go : (b : Bool) → Rising Before (cond b ([] ∷ []) [])
      go true = ((λ y m. absurd (Memᴰ.not-nil m)), tt)
      go false = tt
  onward_rising rows (suc i) seen p = unless-row (λ v. among v seen) (λ v. onward g ends i (v ∷ seen) v) (g p) (rows p) (λ v. onward_rising rows i (v ∷ seen) v)

-- left halves
module _ (g : Graph) (s i : ℕ) where
  pub left_halves_from : {l : List ℕ} → l ∈ left_halves g s i → LeftHalf g s i l
  unfolding left_halves
  left_halves_from {l} m = let q = Memᴰ.of_map (◌∷◌ s) (onward g (λ p. true) i (s ∷ []) s) m in put q.0 q.2 (onward_from g (λ p. true) i (s ∷ []) s q.1)
    where
      put : (w : List ℕ) → s ∷ w ≡ l → Onward g (λ p. true) i (s ∷ []) s w → LeftHalf g s i l
      put w e r = subst (LeftHalf g s i) e (record { first = refl; linked = r.linked; once = (λ j. r.apart s j (Memᴰ.head refl), r.once); exactly = r.exactly })

  pub left_halves_in : (l : List ℕ) → LeftHalf g s i l → l ∈ left_halves g s i
  unfolding left_halves
  left_halves_in [] r = absurd r.first
  left_halves_in (p ∷ w) r = Memᴰ.cast (ap (λ x. x ∷ w) r.first) (Memᴰ.map (◌∷◌ s) (onward_in g (λ p. true) i (s ∷ []) s w (subst (λ x. Onward g (λ p. true) i (x ∷ []) x w) r.first
      (record { linked = r.linked; once = r.once.1; apart = λ x j m. r.once.0 (Memᴰ.cast (sym (Memᴰ.eq_of_singleton m)) j); exactly = r.exactly; ending = refl }))))

  pub left_halves_rising : ((p : ℕ) → Rising ◌<◌ (g p)) → Rising Before (left_halves g s i)
  unfolding left_halves
  left_halves_rising rows = rising_map s (onward g (λ p. true) i (s ∷ []) s) (onward_rising g (λ p. true) rows i (s ∷ []) s)

-- half chains, found from their first person on: the same list
module _ (g : Graph) (rows : (p : ℕ) → Rising ◌<◌ (g p)) (n : ℕ) (low : (p v : ℕ) → v ∈ g p → p < n) (s t : ℕ) (ne : s ≢ t) (known : t < n) (j : ℕ) where
  abbrev begun : ℕ → List (List ℕ)
  begun p = onward g (λ q. eqb q t) j (p ∷ s ∷ []) p

  pub all_half_chains-onward : all_half_chains g n s t j ≡ flat_map (λ p. cond (eqb p s) [] (map (◌∷◌ p) (onward g (λ q. eqb q t) j (p ∷ s ∷ []) p))) (persons_below n)
  all_half_chains-onward = only Before (λ a b. before_asym) (all_half_chains g n s t j) (flat_map _ (persons_below n)) (all_half_chains_rising g n s t j) rises
      (λ h m. to h (all_half_chains_from g n s t ne j m))
      (λ h m. from h (flat_map_from _ (persons_below n) m))
    where
      rises : Rising Before (flat_map (λ p. cond (eqb p s) [] (map (◌∷◌ p) (begun p))) (persons_below n))
      rises = unless-row (λ p. eqb p s) begun (persons_below n) (persons_rising n) (λ p. onward_rising g (λ q. eqb q t) rows j (p ∷ s ∷ []) p)

      below : (p : ℕ) (w : List ℕ) → Linked g (p ∷ w) → Last t (p ∷ w) → p < n
      below p [] l e = omega (arith, e)
      below p (q ∷ w) l e = low p q l.0

      to : (h : List ℕ) → HalfChain g s t j h → h ∈ flat_map (λ p. cond (eqb p s) [] (map (◌∷◌ p) (begun p))) (persons_below n)
      to [] r = absurd r.last
      to (p ∷ w) r =
          flat_map_in _ (below_persons n p (below p w r.linked r.last))
          (rw (ne_eqb p s (λ e. r.apart (Memᴰ.head (sym e)))) (Memᴰ.map (◌∷◌ p) (onward_in g (λ q. eqb q t) j (p ∷ s ∷ []) p w
          (record { linked = r.linked; once = r.once.1; apart = λ x i. out (λ e. r.once.0 (Memᴰ.cast (sym e) i)) (out (λ e. r.apart (Memᴰ.tail (Memᴰ.cast (sym e) i))) Memᴰ.not-nil); exactly = r.exactly; ending = eq-eqb (last_or p w) t (last_last_or t p w r.last) }))))

      put : (p : ℕ) (w : List ℕ) → p ≢ s → Onward g (λ q. eqb q t) j (p ∷ s ∷ []) p w → HalfChain g s t j (p ∷ w)
      put p w o r = record { last = subst (λ x. Last x (p ∷ w)) (eqb-true (last_or p w) t r.ending) (last_or_last p w); linked = r.linked; once = (λ i. r.apart p i (Memᴰ.head refl), r.once); apart = out (λ e. o (sym e)) (λ i. r.apart s i (Memᴰ.tail (Memᴰ.head refl))); exactly = r.exactly }

      from : (h : List ℕ) → (p : ℕ) × (p ∈ persons_below n) × (h ∈ cond (eqb p s) [] (map (◌∷◌ p) (begun p))) → h ∈ all_half_chains g n s t j
      from h q =
          let p = q.0 in
          let r = unless_from p (begun p) (eqb p s) q.2 in
          Memᴰ.cast (sym r.3) (all_half_chains_in g n s t ne low j (p ∷ r.1) (put p r.1 (eqb-false p s r.0) (onward_from g (λ q. eqb q t) j (p ∷ s ∷ []) p r.2)))
