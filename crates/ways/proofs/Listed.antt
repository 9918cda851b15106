-- `listing` holds every chain and nothing else; and where From is To, every way back to that person.
use mathlib.Core.Path.{◌≡◌, refl, sym, ap, subst, ◌∙◌}
use mathlib.Core.Logic.{◌≢◌, ◌↔◌, ◌⊎◌, inl, inr}
use mathlib.Core.List.Memᴰ
use mathlib.Core.List.{List, [], ◌∷◌, ◌++◌}
use Prim.Native.Nat.{ℕ, zero, suc, ◌≤◌}
use native.Mathlib.Omega.{arith}
use lib.ListN.{length, get_or}
use Rattle.ways.specs.Graph.{Graph, ◌∈◌}
use Rattle.ways.specs.Chain.{First, Last, Linked, Distinct, behind, hops, Chain}
use Rattle.ways.specs.Listing.{ways, listing}
use Rattle.ways.proofs.Members.{out}
use Rattle.ways.proofs.Cut.{last_right, distinct_apart}
use Rattle.ways.proofs.Way.{Way, ends, goes, way_in, way_from}

-- a chain from p on, without p, that passes nobody seen but perhaps t
pub record Rest (g : Graph) (t k : ℕ) (seen : List ℕ) (p : ℕ) (w : List ℕ) : Type 0 where
  pub linked : Linked g (p ∷ w)
  pub last : Last t w
  pub once : Distinct w
  pub apart : (x : ℕ) → x ∈ w → x ≢ t → ¬ (x ∈ seen)
  pub few : length w ≤ k

-- the last of w is the last of v ∷ w, and stands in w
pub last_cons : (t v : ℕ) (w : List ℕ) → Last t w → Last t (v ∷ w)
last_cons t v [] h = absurd h
last_cons t v (q ∷ w) h = h

pub last_some : (t : ℕ) (w : List ℕ) → Last t w → 1 ≤ length w
last_some t [] h = absurd h
last_some t (q ∷ w) h = omega arith

pub last_in : {t : ℕ} (w : List ℕ) → Last t w → t ∈ w
last_in [] h = absurd h
last_in (q ∷ []) h = Memᴰ.head (sym h)
last_in (q ∷ r ∷ w) h = Memᴰ.tail (last_in (r ∷ w) h)

-- it stands behind as many as there are hops, whatever follows
pub last_at : (t : ℕ) (c z : List ℕ) → Last t c → get_or (c ++ z) (hops c) 0 ≡ t
last_at t [] z h = absurd h
last_at t (p ∷ []) z h = h
last_at t (p ∷ q ∷ c) z h = last_at t (q ∷ c) z h

-- a way ends at t
pub way_last : {g : Graph} {t k p : ℕ} {seen w : List ℕ} → Way g t k seen p w → Last t w
way_last (ends m e) = e
way_last {t = t} (goes {v = v} {w = w} m n o r) = last_cons t v w (way_last r)

pub way_rest : {g : Graph} {t k p : ℕ} {seen w : List ℕ} → Way g t k seen p w → Rest g t k seen p w
way_rest (ends m e) = record { linked = (m, tt); last = e; once = (Memᴰ.not-nil, tt); apart = λ x i n. absurd (n (Memᴰ.eq_of_singleton i ∙ e)); few = omega arith }
way_rest {t = t} (goes {v = v} {seen = seen} {w = w} m n o r) =
    let h = way_rest r in
    record { linked = (m, h.linked); last = last_cons t v w h.last; once = (λ j. h.apart v j n (Memᴰ.head refl), h.once); apart = λ x a i. apart x (λ b. h.apart x b i) (Memᴰ.cases_cons a); few = omega arith }
  where
    apart : (x : ℕ) → (x ∈ w → ¬ (x ∈ v ∷ seen)) → (x ≡ v) ⊎ (x ∈ w) → ¬ (x ∈ seen)
    apart x f (inl e) j = o (Memᴰ.cast (sym e) j)
    apart x f (inr a) j = f a (Memᴰ.tail j)

pub rest_way : {g : Graph} {t : ℕ} (k p : ℕ) (seen w : List ℕ) → Rest g t k seen p w → Way g t k seen p w
rest_way k p seen [] r = absurd r.last
rest_way zero p seen (v ∷ w) r = absurd (omega arith)
rest_way (suc k) p seen (v ∷ []) r = ends r.linked.0 r.last
rest_way {t = t} (suc k) p seen (v ∷ q ∷ w) r =
    goes r.linked.0 other (r.apart v (Memᴰ.head refl) other)
    (rest_way k v (v ∷ seen) (q ∷ w)
    (record { linked = r.linked.1; last = r.last; once = r.once.1; apart = λ x a n. out (λ e. r.once.0 (Memᴰ.cast (sym e) a)) (r.apart x (Memᴰ.tail a) n); few = omega arith }))
  where
    other : v ≢ t
    other e = r.once.0 (Memᴰ.cast e (last_in (q ∷ w) r.last))

-- what stands in `listing`, whether From is To or not: nobody behind the first comes twice, and the first comes again only where it is To
pub record Listable (g : Graph) (s t k : ℕ) (c : List ℕ) : Type 0 where
  pub first : First s c
  pub last : Last t (behind c)
  pub linked : Linked g c
  pub once : Distinct (behind c)
  pub apart : s ≢ t → ¬ (s ∈ behind c)
  pub few : hops c ≤ k

pub listed : (g : Graph) (s t k : ℕ) (c : List ℕ) → c ∈ listing g s t k ↔ Listable g s t k c
unfolding listing
listed g s t k c = (λ m. to (Memᴰ.of_map (◌∷◌ s) (ways g t k (s ∷ []) s) m), from c)
  where
    to : (w : List ℕ) × (w ∈ ways g t k (s ∷ []) s) × (s ∷ w ≡ c) → Listable g s t k c
    to r =
        let h = way_rest (way_from g t k s (s ∷ []) r.1) in
        subst (λ c. Listable g s t k c) r.2 (record { first = refl; last = h.last; linked = h.linked; once = h.once; apart = λ n a. h.apart s a n (Memᴰ.head refl); few = h.few })

    from : (c : List ℕ) → Listable g s t k c → c ∈ listing g s t k
    from [] h = absurd h.first
    from (p ∷ w) h =
        Memᴰ.cast (ap (λ x. x ∷ w) h.first) (Memᴰ.map (◌∷◌ s) (way_in (rest_way k s (s ∷ []) w
        (record { linked = subst (λ x. Linked g (x ∷ w)) h.first h.linked; last = h.last; once = h.once; apart = λ x a n j. let e = Memᴰ.eq_of_singleton j in h.apart (λ i. n (e ∙ i)) (Memᴰ.cast (sym e) a); few = h.few }))))

-- where From is not To, these are the chains
pub listable_chain : (g : Graph) (s t k : ℕ) → s ≢ t → (c : List ℕ) → Listable g s t k c → Chain g s t k c
listable_chain g s t k ne [] h = absurd h.first
listable_chain g s t k ne (p ∷ w) h = record { first = h.first; last = last_cons t p w h.last; linked = h.linked; once = (λ a. h.apart ne (Memᴰ.cast (sym h.first) a), h.once); some = last_some t w h.last; few = h.few }

pub chain_listable : (g : Graph) (s t k : ℕ) (c : List ℕ) → Chain g s t k c → Listable g s t k c
chain_listable g s t k [] h = absurd h.first
chain_listable g s t k (p ∷ []) h = absurd (omega arith)
chain_listable g s t k (p ∷ q ∷ w) h = record { first = h.first; last = h.last; linked = h.linked; once = h.once.1; apart = λ n a. h.once.0 (Memᴰ.cast h.first a); few = h.few }

-- exact: in the listing if and only if a chain
pub exact : (g : Graph) (s t k : ℕ) → s ≢ t → (c : List ℕ) → c ∈ listing g s t k ↔ Chain g s t k c
exact g s t k ne c = let l = listed g s t k c in (λ m. listable_chain g s t k ne c (l.0 m), λ h. l.1 (chain_listable g s t k c h))

-- no person has a chain to the same person
pub no_chain : (g : Graph) (s k : ℕ) (c : List ℕ) → ¬ Chain g s s k c
no_chain g s k [] h = h.first
no_chain g s k (p ∷ []) h = omega arith
no_chain g s k (p ∷ q ∷ c) h = h.once.0 (Memᴰ.cast h.first (last_in (q ∷ c) h.last))

-- nothing that stands in the listing is a beginning of another
pub listable_no_beginning : (g : Graph) (s t k : ℕ) (c d : List ℕ) → Listable g s t k c → Listable g s t k (c ++ d) → d ≡ []
listable_no_beginning g s t k c [] h i = refl
listable_no_beginning g s t k [] (x ∷ d) h i = absurd h.first
listable_no_beginning g s t k (p ∷ w) (x ∷ d) h i = absurd (distinct_apart (x ∷ d) (last_in w h.last) i.once (last_in (x ∷ d) (last_right t x w d i.last)))

-- "No chain is a beginning of another."
pub no_beginning : (g : Graph) (s t k : ℕ) (c d : List ℕ) → Chain g s t k c → Chain g s t k (c ++ d) → d ≡ []
no_beginning g s t k c d h i = listable_no_beginning g s t k c d (chain_listable g s t k c h) (chain_listable g s t k (c ++ d) i)
