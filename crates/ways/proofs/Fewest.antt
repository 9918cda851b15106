-- The computed `fewest` is the fewest hops, at most k, else k+1; and what a search may leave out by it.
use mathlib.Core.Path.{◌≡◌, refl, sym, subst}
use mathlib.Core.Logic.{◌≢◌}
use mathlib.Core.Bool.{Bool, true, false, cond}
use mathlib.Core.List.Memᴰ
use mathlib.Core.List.{List, [], ◌∷◌, ◌++◌, map}
use Prim.Native.Nat.{ℕ, zero, suc, ◌+◌, ◌≤◌, ◌<◌}
use native.Mathlib.Omega.{arith}
use native.Mathlib.Nat.{le_refl}
use native.Mathlib.Decide.{dec_le}
use lib.ListN.{length, length-append}
use lib.Dec.{eqb}
use borrow.Author.Tests.{eqb-true, eq-eqb}
use Rattle.ways.specs.Graph.{Graph, ◌∈◌}
use Rattle.ways.specs.Chain.{Last, Linked, Chain}
use Rattle.ways.specs.Listing.{ways}
use Rattle.ways.specs.Fewest.{Reach, here, link, FewestUpTo, lowest, fewest}
use Rattle.ways.proofs.Members.{mem_split}
use Rattle.ways.proofs.Cut.{linked_left, linked_right, last_right, last_snoc}
use Rattle.ways.proofs.Reach.{none_near}

-- the lowest of some numbers
pub lowest_some : (cap h : ℕ) (ds : List ℕ) → h < cap → lowest cap ds ≤ h → (d : ℕ) × (d ∈ ds) × (d ≤ h)
lowest_some cap h [] l e = absurd (omega arith)
lowest_some cap h (d ∷ ds) l e = go (dec_le d h) (λ i. lowest_some cap h ds l i)
  where
    go : Dec (d ≤ h) → (lowest cap ds ≤ h → (x : ℕ) × (x ∈ ds) × (x ≤ h)) → (x : ℕ) × (x ∈ d ∷ ds) × (x ≤ h)
    go (yes i) on = (d, Memᴰ.head refl, i)
    go (no n) on = let r = on (omega arith) in (r.0, Memᴰ.tail r.1, r.2)

pub some_lowest : (cap h : ℕ) {d : ℕ} {ds : List ℕ} → d ∈ ds → d ≤ h → lowest cap ds ≤ h
some_lowest cap h (Memᴰ.head e) l = omega arith
some_lowest cap h (Memᴰ.tail m) l = omega (arith, some_lowest cap h m l)

pub lowest_cap : (cap : ℕ) (ds : List ℕ) → lowest cap ds ≤ cap
lowest_cap cap [] = omega arith
lowest_cap cap (d ∷ ds) = omega (arith, lowest_cap cap ds)

module _ (g : Graph) (t : ℕ) where
  pub fewest_end : (k p : ℕ) → p ≡ t → fewest g t k p ≡ 0
  unfolding fewest
  fewest_end zero p e = rw (eq-eqb p t e)
  fewest_end (suc k) p e = rw (eq-eqb p t e)

  pub fewest_cap : (k p : ℕ) → fewest g t k p ≤ suc k
  unfolding fewest
  fewest_cap zero p = go (eqb p t)
    where
      go : (b : Bool) → cond b 0 1 ≤ 1
      go true = omega arith
      go false = omega arith
  fewest_cap (suc k) p = go (eqb p t)
    where
      go : (b : Bool) → cond b 0 (suc (lowest (suc k) (map (fewest g t k) (g p)))) ≤ suc (suc k)
      go true = omega arith
      go false = omega (arith, lowest_cap (suc k) (map (fewest g t k) (g p)))

  -- at most h just where t is in reach within h
  pub fewest_in : (k h p : ℕ) → h ≤ k → fewest g t k p ≤ h → Reach g t h p
  unfolding fewest
  fewest_in zero h p l f = go (eqb p t) refl f
    where
      go : (b : Bool) → eqb p t ≡ b → cond b 0 1 ≤ h → Reach g t h p
      go true e f = here (eqb-true p t e)
      go false e f = absurd (omega arith)
  fewest_in (suc k) zero p l f = go (eqb p t) refl f
    where
      go : (b : Bool) → eqb p t ≡ b → cond b 0 (suc (lowest (suc k) (map (fewest g t k) (g p)))) ≤ 0 → Reach g t 0 p
      go true e f = here (eqb-true p t e)
      go false e f = absurd (omega arith)
  fewest_in (suc k) (suc h) p l f = go (eqb p t) refl f (λ v i. fewest_in k h v (omega arith) i)
    where
      step : ((v : ℕ) → fewest g t k v ≤ h → Reach g t h v) → (d : ℕ) × (d ∈ map (fewest g t k) (g p)) × (d ≤ h) → Reach g t (suc h) p
      step on r =
          let q = Memᴰ.of_map (fewest g t k) (g p) r.1 in
          link q.1 (on q.0 (rw q.2 r.2))

      go : (b : Bool) → eqb p t ≡ b → cond b 0 (suc (lowest (suc k) (map (fewest g t k) (g p)))) ≤ suc h → ((v : ℕ) → fewest g t k v ≤ h → Reach g t h v) → Reach g t (suc h) p
      go true e f on = here (eqb-true p t e)
      go false e f on = step on (lowest_some (suc k) h (map (fewest g t k) (g p)) (omega arith) (omega arith))

  pub in_fewest : (k : ℕ) {h p : ℕ} → h ≤ k → Reach g t h p → fewest g t k p ≤ h
  unfolding fewest
  in_fewest k {p = p} l (here e) = omega (arith, fewest_end k p e)
  in_fewest zero l (link m r) = absurd (omega arith)
  in_fewest (suc k) {p = p} l (link {h = h} {v = v} m r) = go (eqb p t) (in_fewest k (let i : h ≤ k = omega arith in i) r)
    where
      go : (b : Bool) → fewest g t k v ≤ h → cond b 0 (suc (lowest (suc k) (map (fewest g t k) (g p)))) ≤ suc h
      go true i = omega arith
      go false i = omega (arith, some_lowest (suc k) h (Memᴰ.map (fewest g t k) m) i)

  -- "at most k, else k+1"; and no other number is so
  pub fewest_up_to : (k p : ℕ) → FewestUpTo g t k (fewest g t k p) p
  fewest_up_to k p = record { cap = fewest_cap k p; reach = λ l. fewest_in k (fewest g t k p) p l (le_refl (fewest g t k p)); least = least }
    where
      least : (j : ℕ) → j < fewest g t k p → ¬ Reach g t j p
      least j l r = let c = fewest_cap k p in let i = in_fewest k (let n : j ≤ k = omega arith in n) r in omega arith

  pub fewest_only : (k d p : ℕ) → FewestUpTo g t k d p → d ≡ fewest g t k p
  fewest_only k d p f = go (dec_le d k) (dec_le (fewest g t k p) k)
    where
      le : d ≤ k → fewest g t k p ≤ d
      le l = in_fewest k l (f.reach l)

      ge : fewest g t k p ≤ k → d ≤ fewest g t k p
      ge l = go (dec_le d (fewest g t k p))
        where
          go : Dec (d ≤ fewest g t k p) → d ≤ fewest g t k p
          go (yes i) = i
          go (no n) = absurd (f.least (fewest g t k p) (omega arith) ((fewest_up_to k p).reach l))

      go : Dec (d ≤ k) → Dec (fewest g t k p ≤ k) → d ≡ fewest g t k p
      go (yes l) b = let i = le l in let j = ge (omega arith) in omega arith
      go (no n) (yes l) = let j = ge l in omega arith
      go (no n) (no m) = let c = f.cap in let e = fewest_cap k p in omega arith

  -- along a link the number falls by at most one
  pub fewest_link : (k u v : ℕ) → v ∈ g u → fewest g t k u ≤ suc (fewest g t k v)
  fewest_link k u v m = go (dec_le (suc (fewest g t k v)) k)
    where
      go : Dec (suc (fewest g t k v) ≤ k) → fewest g t k u ≤ suc (fewest g t k v)
      go (yes l) = in_fewest k l (link m ((fewest_up_to k v).reach (omega arith)))
      go (no n) = let c = fewest_cap k u in omega arith

  -- the rounds of a table: whoever is left over when a person next to them has h hops has one more; and nobody has that number otherwise
  pub fewest_suc : (k h p v : ℕ) → v ∈ g p → fewest g t k v ≡ h → h < fewest g t k p → fewest g t k p ≡ suc h
  fewest_suc k h p v m e l = omega (arith, fewest_link k p v m)

  pub fewest-next : (k h p : ℕ) → fewest g t k p ≡ suc h → h < k → (v : ℕ) × (v ∈ g p) × (fewest g t k v ≡ h)
  fewest-next k h p e l = go (fewest_in k (suc h) p l (omega arith))
    where
      go : Reach g t (suc h) p → (v : ℕ) × (v ∈ g p) × (fewest g t k v ≡ h)
      go (here i) = absurd (omega (arith, fewest_end k p i))
      go (link {v = v} m r) = (v, m, omega (arith, fewest_link k p v m, in_fewest k (let i : h ≤ k = omega arith in i) r))

  -- fewer hops than the fewest: no way, whoever was seen
  pub none_fewest : (k j p : ℕ) (seen : List ℕ) → j < fewest g t k p → ways g t j seen p ≡ []
  none_fewest k j p seen l = none_near g t j p seen ((fewest_up_to k p).least j l)

  -- one hop: t is next to p
  pub fewest_near : (k p : ℕ) → 1 ≤ k → p ≢ t → fewest g t k p ≤ 1 → t ∈ g p
  fewest_near k p l n f = go (fewest_in k 1 p l f)
    where
      go : Reach g t 1 p → t ∈ g p
      go (here e) = absurd (n e)
      go (link {v = v} m (here e)) = Memᴰ.cast (sym e) m

-- a walk reaches its end in as many hops as it has
pub linked_reach : (g : Graph) (t p : ℕ) (w : List ℕ) → Linked g (p ∷ w) → Last t (p ∷ w) → Reach g t (length w) p
linked_reach g t p [] l e = here e
linked_reach g t p (q ∷ w) l e = link l.0 (linked_reach g t q w l.1 e)

-- and where the end is in reach, there is a walk of no more hops
pub reach_linked : {g : Graph} {t h p : ℕ} → Reach g t h p → (w : List ℕ) × Linked g (p ∷ w) × Last t (p ∷ w) × (length w ≤ h)
reach_linked (here e) = ([], tt, e, omega arith)
reach_linked (link {v = v} m r) = let walk = reach_linked r in (v ∷ walk.0, (m, walk.1), walk.2, omega (arith, walk.3))

-- somebody on a chain is reached from s, and reaches t, in no more hops together than the chain has
pub chain_through : {g : Graph} {s t k u : ℕ} {c : List ℕ} → Chain g s t k c → u ∈ c → (a : ℕ) × (b : ℕ) × Reach g u a s × Reach g t b u × (a + b ≤ k)
chain_through {g} {s} {t} {k} {u} {c} h m = let q = mem_split m in go q.0 q.1 (subst (λ d. Chain g s t k d) q.2 h)
  where
    go : (lo hi : List ℕ) → Chain g s t k (lo ++ u ∷ hi) → (a : ℕ) × (b : ℕ) × Reach g u a s × Reach g t b u × (a + b ≤ k)
    go [] hi h = (0, length hi, here (sym h.first), linked_reach g t u hi h.linked h.last, omega arith)
    go (p ∷ lo) hi h =
        let e = length-append lo (u ∷ []) in
        let f = length-append lo (u ∷ hi) in (
          length (lo ++ (u ∷ [])),
          length hi,
          subst (Reach g u (length (lo ++ (u ∷ [])))) h.first (linked_reach g u p (lo ++ (u ∷ [])) (linked_left g u (p ∷ lo) hi h.linked) (last_snoc u (p ∷ lo))),
          linked_reach g t u hi (linked_right g u (p ∷ lo) hi h.linked) (last_right t u (p ∷ lo) hi h.last),
          omega arith,
        )

-- fewest hops from From plus fewest hops to To above k: in no chain (document 000, theorem 4)
pub none_through : {g : Graph} {s t k : ℕ} (u : ℕ) {c : List ℕ} → Chain g s t k c → k < fewest g u k s + fewest g t k u → ¬ (u ∈ c)
none_through {g} {s} {t} {k} u h l m =
    let q = chain_through h m in
    let a = in_fewest g u k (let i : q.0 ≤ k = omega (arith, q.4) in i) q.2 in
    let b = in_fewest g t k (let i : q.1 ≤ k = omega (arith, q.4) in i) q.3 in
    omega (arith, q.4)

-- and no table from From is needed: whom it leaves out, the hops so far leave out too
pub so_far_stronger : (g : Graph) (s t k h u : ℕ) → Reach g u h s → h + fewest g t k u ≤ k → fewest g u k s + fewest g t k u ≤ k
so_far_stronger g s t k h u r l = let a = in_fewest g u k (let i : h ≤ k = omega arith in i) r in omega arith
