-- Who reaches the end person within h hops, by rounds; and that just those have a way.
use mathlib.Core.Path.{◌≡◌, refl, ap, subst}
use mathlib.Core.Logic.{◌≢◌, ◌↔◌, ◌⊎◌, inl, inr}
use mathlib.Core.List.Memᴰ
use mathlib.Core.List.{List, [], ◌∷◌}
use Prim.Native.Nat.{ℕ, zero, suc, ◌≤◌, ◌<◌}
use native.Mathlib.Omega.{arith}
use native.Mathlib.Nat.{le_refl}
use native.Mathlib.Decide.{ℕ_discrete}
use Rattle.ways.specs.Graph.{Graph, ◌∈◌}
use Rattle.ways.specs.Listing.{ways}
use Rattle.ways.specs.Fewest.{Reach, here, link, Fewest}
use Rattle.ways.proofs.Way.{Way, ends, goes, no_way, none}
use Rattle.ways.proofs.Barrier.{way_more}

-- within no hop there is t alone
pub round_zero : (g : Graph) (t p : ℕ) → Reach g t 0 p ↔ (p ≡ t)
round_zero g t p = (to, here)
  where
    to : Reach g t 0 p → p ≡ t
    to (here e) = e

module _ {g : Graph} {t : ℕ} where
  pub reach_more : {j h p : ℕ} → j ≤ h → Reach g t j p → Reach g t h p
  reach_more l (here e) = here e
  reach_more {h = zero} l (link m r) = absurd (omega arith)
  reach_more {h = suc h} l (link {h = j} m r) = let i : j ≤ h = omega arith in link m (reach_more i r)

  -- where there is a way, t is in reach
  pub way_reach : {k p : ℕ} {seen w : List ℕ} → Way g t k seen p w → Reach g t k p
  way_reach (ends m e) = link m (here e)
  way_reach (goes m n o r) = link m (way_reach r)

-- whether some v of a row has P
pub dec_some : {P : ℕ → Type 0} → ((v : ℕ) → Dec (P v)) → (l : List ℕ) → Dec ((v : ℕ) × (v ∈ l) × P v)
dec_some d [] = no (λ r. Memᴰ.not-nil r.1)
dec_some {P} d (x ∷ l) = go (d x) (dec_some d l)
  where
    miss : ¬ P x → ¬ ((v : ℕ) × (v ∈ l) × P v) → (v : ℕ) → (v ≡ x) ⊎ (v ∈ l) → ¬ P v
    miss n o v (inl e) q = n (subst P e q)
    miss n o v (inr m) q = o (v, m, q)

    go : Dec (P x) → Dec ((v : ℕ) × (v ∈ l) × P v) → Dec ((v : ℕ) × (v ∈ x ∷ l) × P v)
    go (yes q) r = yes (x, Memᴰ.head refl, q)
    go (no n) (yes r) = yes (r.0, Memᴰ.tail r.1, r.2)
    go (no n) (no o) = no (λ r. miss n o r.0 (Memᴰ.cases_cons r.1) r.2)

pub dec_reach : (g : Graph) (t h p : ℕ) → Dec (Reach g t h p)
dec_reach g t zero p = go (ℕ_discrete p t)
  where
    go : Dec (p ≡ t) → Dec (Reach g t 0 p)
    go (yes e) = yes (here e)
    go (no n) = no (λ r. n ((round_zero g t p).0 r))
dec_reach g t (suc h) p = go (ℕ_discrete p t) (dec_some (dec_reach g t h) (g p))
  where
    neither : p ≢ t → ¬ ((v : ℕ) × (v ∈ g p) × Reach g t h v) → ¬ Reach g t (suc h) p
    neither n o (here e) = n e
    neither n o (link {v = v} m r) = o (v, m, r)

    go : Dec (p ≡ t) → Dec ((v : ℕ) × (v ∈ g p) × Reach g t h v) → Dec (Reach g t (suc h) p)
    go (yes e) r = yes (here e)
    go (no n) (yes r) = yes (link r.1 r.2)
    go (no n) (no o) = no (neither n o)

module _ (g : Graph) (t : ℕ) where
  -- the fewest hops are there where t is in reach
  pub reach_fewest : (h p : ℕ) → Reach g t h p → (d : ℕ) × (d ≤ h) × Fewest g t d p
  reach_fewest zero p r = (0, le_refl 0, record { reach = r; least = λ j l. absurd (omega arith) })
  reach_fewest (suc h) p r = go (dec_reach g t h p) (λ q. reach_fewest h p q)
    where
      go : Dec (Reach g t h p) → (Reach g t h p → (d : ℕ) × (d ≤ h) × Fewest g t d p) → (d : ℕ) × (d ≤ suc h) × Fewest g t d p
      go (yes q) on = let f = on q in (f.0, omega arith, f.2)
      go (no n) on = (suc h, le_refl (suc h), record { reach = r; least = λ j l q. n (reach_more (let i : j ≤ h = omega arith in i) q) })

  -- who does not reach t within j hops has no way within j, whoever was seen
  pub none_near : (j p : ℕ) (seen : List ℕ) → ¬ Reach g t j p → ways g t j seen p ≡ []
  none_near j p seen n = none g t j p seen (λ w r. n (way_reach r))

  -- a walk of the fewest hops passes nobody twice: it passes persons ever nearer to t, and none of those seen, who are farther
  pub short_way : (h p : ℕ) (seen : List ℕ) → Reach g t (suc h) p → ¬ Reach g t h p → ((x : ℕ) → x ∈ seen → ¬ Reach g t h x) → (w : List ℕ) × Way g t (suc h) seen p w
  short_way h p seen (here e) n far = absurd (n (here e))
  short_way zero p seen (link {v = v} m r) n far = (v ∷ [], ends m ((round_zero g t v).0 r))
  short_way (suc h) p seen (link {v = v} m r) n far =
      let f = short_way h v (v ∷ seen) r near farther in
      (v ∷ f.0, goes m (λ e. near (here e)) (λ i. far v i r) f.1)
    where
      near : ¬ Reach g t h v
      near q = n (link m q)

      farther : (x : ℕ) → x ∈ v ∷ seen → ¬ Reach g t h x
      farther x (Memᴰ.head e) q = near (subst (Reach g t h) e q)
      farther x (Memᴰ.tail i) q = far x i (reach_more (omega arith) q)

  pub reach_way : (h p : ℕ) → p ≢ t → Reach g t h p → (w : List ℕ) × Way g t h (p ∷ []) p w
  reach_way h p n r = let q = reach_fewest h p r in go q.0 q.1 q.2
    where
      go : (d : ℕ) → d ≤ h → Fewest g t d p → (w : List ℕ) × Way g t h (p ∷ []) p w
      go zero l f = absurd (n ((round_zero g t p).0 f.reach))
      go (suc d) l f =
          let far : ¬ Reach g t d p = f.least d (omega arith) in
          let w = short_way d p (p ∷ []) f.reach far (λ x m q. far (subst (Reach g t d) (Memᴰ.eq_of_singleton m) q)) in
          (w.0, way_more l (λ x m. m) w.1)

  -- t is in reach of p within h just where there is a way
  pub reach_iff : (h p : ℕ) → p ≢ t → Reach g t h p ↔ (ways g t h (p ∷ []) p ≢ [])
  reach_iff h p n = (λ r e. let w = reach_way h p n r in no_way e w.0 w.1, λ q. go q (dec_reach g t h p))
    where
      go : ways g t h (p ∷ []) p ≢ [] → Dec (Reach g t h p) → Reach g t h p
      go q (yes r) = r
      go q (no o) = absurd (q (none_near h p (p ∷ []) o))

-- numbers that are 0 at t and fall by at most one along each link are at most the fewest hops: all that leaving out needs of them
pub reach_steps : {g : Graph} {t : ℕ} (b : ℕ → ℕ) → b t ≡ 0 → ((u v : ℕ) → v ∈ g u → b u ≤ suc (b v)) → {j p : ℕ} → Reach g t j p → b p ≤ j
reach_steps b z c (here e) = omega (arith, ap b e)
reach_steps b z c (link {p = p} {v = v} m r) = omega (arith, c p v m, reach_steps b z c r)

pub steps_far : (g : Graph) (t : ℕ) (b : ℕ → ℕ) → b t ≡ 0 → ((u v : ℕ) → v ∈ g u → b u ≤ suc (b v)) → (u j : ℕ) → j < b u → ¬ Reach g t j u
steps_far g t b z c u j l r = let h = reach_steps b z c r in omega arith
