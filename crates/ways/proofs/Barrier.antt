-- Where no way is: the laws by which a search may leave a person out.
use mathlib.Core.Path.{◌≡◌, refl, sym, ap, subst, ◌∙◌, fun_ext}
use mathlib.Core.Logic.{◌≢◌, ◌⊎◌, inl, inr}
use mathlib.Core.Bool.{Bool, true, false, cond}
use mathlib.Core.List.Memᴰ
use mathlib.Core.List.{List, [], ◌∷◌, ◌++◌, flat_map}
use Prim.Native.Nat.{ℕ, zero, suc, ◌≤◌, ◌<◌}
use native.Mathlib.Omega.{arith}
use native.Mathlib.Nat.{le_refl}
use native.Mathlib.Decide.{ℕ_discrete}
use lib.ListN.{length}
use borrow.Author.Tests.{eq-eqb, ne_eqb}
use Rattle.ways.specs.Graph.{Graph, ◌∈◌, among}
use Rattle.ways.specs.Order.{Rising}
use Rattle.ways.specs.Listing.{by, ways}
use Rattle.ways.proofs.Members.{among_true, mem_among, among_false, out_among, out, Within, within-cons, swap, flat_map_append, mem_split}
use Rattle.ways.proofs.Way.{Way, ends, goes, no_way, none}
use Rattle.ways.proofs.Rising.{rising_below, rising_above}

-- more hops and fewer seen: a way stays one
pub way_more : {g : Graph} {t j k p : ℕ} {seen fewer w : List ℕ} → j ≤ k → Within fewer seen → Way g t j seen p w → Way g t k fewer p w
way_more {k = zero} h i (ends m e) = absurd (omega arith)
way_more {k = suc k} h i (ends m e) = ends m e
way_more {k = zero} h i (goes m n o r) = absurd (omega arith)
way_more {k = suc k} h i (goes {k = j} {v = v} m n o r) = let l : j ≤ k = omega arith in goes m n (λ q. o (i v q)) (way_more l (within-cons v i) r)

-- a way is a way within as many hops as it has
pub way_cut : {g : Graph} {t j k p : ℕ} {seen w : List ℕ} → Way g t k seen p w → length w ≤ j → Way g t j seen p w
way_cut {j = zero} (ends m e) l = absurd (omega arith)
way_cut {j = suc j} (ends m e) l = ends m e
way_cut {j = zero} (goes m n o r) l = absurd (omega arith)
way_cut {j = suc j} (goes {w = w} m n o r) l = let i : length w ≤ j = omega arith in goes m n o (way_cut r i)

-- no way within more hops and fewer seen, none within fewer hops and more seen
pub none_more : (g : Graph) (t j k p : ℕ) (seen fewer : List ℕ) → j ≤ k → Within fewer seen → ways g t k fewer p ≡ [] → ways g t j seen p ≡ []
none_more g t j k p seen fewer h i e = none g t j p seen (λ w r. no_way e w (way_more h i r))

pub none_hops : (g : Graph) (t j k p : ℕ) (seen : List ℕ) → j ≤ k → ways g t k seen p ≡ [] → ways g t j seen p ≡ []
none_hops g t j k p seen h = none_more g t j k p seen seen h (λ x m. m)

-- a way through v holds a way from v that is shorter and passes nobody seen
pub way_through : {g : Graph} {t j p v : ℕ} {seen w : List ℕ} → Way g t j seen p w → v ∈ w → v ≢ t → (i : ℕ) × (u : List ℕ) × (i < j) × Way g t i (v ∷ seen) v u
way_through (ends m e) q n = absurd (n (Memᴰ.eq_of_singleton q ∙ e))
way_through {g} {t} {v = v} (goes {k = k} {v = x} {seen = seen} {w = w} m o s r) q n = step (λ i. way_through r i n) (Memᴰ.cases_cons q)
  where
    Found : ℕ → List ℕ → Type 0
    Found j seen = (i : ℕ) × (u : List ℕ) × (i < j) × Way g t i (v ∷ seen) v u

    wider : Within (v ∷ seen) (v ∷ x ∷ seen)
    wider = within-cons v (λ y i. Memᴰ.tail i)

    step : (v ∈ w → Found k (x ∷ seen)) → (v ≡ x) ⊎ (v ∈ w) → Found (suc k) seen
    step on (inl e) = (k, w, omega arith, subst (λ y. Way g t k (y ∷ seen) y w) (sym e) r)
    step on (inr i) = let f = on i in (f.0, f.1, omega arith, way_more (omega arith) wider f.3)

-- a way on which v does not stand, but perhaps as the end, is one past v
pub way_avoid : {g : Graph} {t j p v : ℕ} {seen w : List ℕ} → Way g t j seen p w → (v ∈ w → v ≡ t) → Way g t j (v ∷ seen) p w
way_avoid (ends m e) a = ends m e
way_avoid {v = v} (goes {k = k} {v = x} {seen = seen} m n o r) a =
    goes m n (out (λ e. n (e ∙ a (Memᴰ.head (sym e)))) o) (way_more (le_refl k) (swap x v seen) (way_avoid r (λ q. a (Memᴰ.tail q))))

-- the pop law: a person left with nothing found releases nothing. v has no way on within h hops, and u none within j while v was seen: then u has none without v
pub pop : (g : Graph) (t h j u v : ℕ) (seen S : List ℕ) → j ≤ suc h → Within seen S → ways g t h (v ∷ seen) v ≡ [] → ways g t j (v ∷ S) u ≡ [] → ways g t j S u ≡ []
pop g t h j u v seen S l i a b = none g t j u S (λ w r. go w r (ℕ_discrete v t) (among v w) refl)
  where
    go : (w : List ℕ) → Way g t j S u w → Dec (v ≡ t) → (c : Bool) → among v w ≡ c → ⊥
    go w r (yes e) c m = no_way b w (way_avoid r (λ q. e))
    go w r (no n) false m = no_way b w (way_avoid r (λ q. absurd (among_false m q)))
    go w r (no n) true m = let f = way_through r (among_true v w m) n in no_way a f.1 (way_more (omega arith) (within-cons v i) f.3)

-- as the search uses it: v has found nothing within h hops, and u found nothing within j while v was on the way
pub pop_on : (g : Graph) (t h j u v : ℕ) (seen : List ℕ) → j ≤ suc h → ways g t h (v ∷ seen) v ≡ [] → ways g t j (u ∷ v ∷ seen) u ≡ [] → ways g t j (u ∷ seen) u ≡ []
pop_on g t h j u v seen l a b = pop g t h j u v seen (u ∷ seen) l (λ x m. Memᴰ.tail m) a (none_more g t j j u (v ∷ u ∷ seen) (u ∷ v ∷ seen) (omega arith) (swap u v seen) b)

-- who was seen counts only as a set
pub same_seen : (g : Graph) (t k p : ℕ) (a b : List ℕ) → ((x : ℕ) → among x a ≡ among x b) → ways g t k a p ≡ ways g t k b p
unfolding ways by among
same_seen g t zero p a b h = refl
same_seen g t (suc k) p a b h = ap (λ f. flat_map f (g p)) (fun_ext (λ v. rw (h v, same_seen g t k v (v ∷ a) (v ∷ b) (cons v))))
  where
    cons : (v x : ℕ) → among x (v ∷ a) ≡ among x (v ∷ b)
    cons v x = rw (h x)

pub same_members : (g : Graph) (t k p : ℕ) (a b : List ℕ) → Within a b → Within b a → ways g t k a p ≡ ways g t k b p
same_members g t k p a b f h = same_seen g t k p a b (λ x. go x (among x b) refl)
  where
    go : (x : ℕ) (c : Bool) → among x b ≡ c → among x a ≡ among x b
    go x true e = mem_among (h x (among_true x b e)) ∙ sym e
    go x false e = out_among (λ m. among_false e (f x m)) ∙ sym e

-- numbers that fall by at most one along each link among the persons outside S, and are 0 at t, tell of too few hops
pub way_steps : {g : Graph} {t : ℕ} (b : ℕ → ℕ) (S : List ℕ) → b t ≡ 0
    → ((u v : ℕ) → ¬ (u ∈ S) → v ∈ g u → (v ≡ t) ⊎ ¬ (v ∈ S) → b u ≤ suc (b v))
    → {j p : ℕ} {seen w : List ℕ} → Way g t j seen p w → Within S seen → ¬ (p ∈ S) → b p ≤ j
way_steps b S z c (ends {p = p} {v = v} m e) i o = omega (arith, c p v o m (inl e), ap b e)
way_steps b S z c (goes {p = p} {v = v} m n q r) i o = omega (arith, c p v o m (inr (λ a. q (i v a))), way_steps b S z c r (λ x a. Memᴰ.tail (i x a)) (λ a. q (i v a)))

pub none_steps : (g : Graph) (t : ℕ) (b : ℕ → ℕ) (S : List ℕ) → b t ≡ 0
    → ((u v : ℕ) → ¬ (u ∈ S) → v ∈ g u → (v ≡ t) ⊎ ¬ (v ∈ S) → b u ≤ suc (b v))
    → (j p : ℕ) (seen : List ℕ) → Within S seen → ¬ (p ∈ S) → j < b p → ways g t j seen p ≡ []
none_steps g t b S z c j p seen i o l = none g t j p seen (λ w r. let h = way_steps b S z c r i o in omega arith)

-- a person from whom no way leads on adds nothing
pub by_none : (t v : ℕ) (seen : List ℕ) (on : List ℕ → ℕ → List (List ℕ)) → v ≢ t → on (v ∷ seen) v ≡ [] → by t seen on v ≡ []
unfolding by
by_none t v seen on n e = rw (ne_eqb v t n, e) (go (among v seen))
  where
    go : (c : Bool) → ◌≡◌ {A = List (List ℕ)} (cond c [] []) []
    go true = refl
    go false = refl

-- with one hop left there is t, where t is next, and nothing else
module _ (g : Graph) (t : ℕ) (seen : List ℕ) where
  last_none : (row : List ℕ) → ¬ (t ∈ row) → flat_map (by t seen (ways g t 0)) row ≡ []
  unfolding flat_map ways
  last_none [] o = refl
  last_none (v ∷ row) o = rw (by_none t v seen (ways g t 0) (λ e. o (Memᴰ.head (sym e))) refl, last_none row (λ m. o (Memᴰ.tail m)))

  pub last_hop_none : (p : ℕ) → ¬ (t ∈ g p) → ways g t 1 seen p ≡ []
  unfolding ways
  last_hop_none p o = last_none (g p) o

  pub last_hop : (p : ℕ) → Rising ◌<◌ (g p) → t ∈ g p → ways g t 1 seen p ≡ (t ∷ []) ∷ []
  unfolding ways flat_map by
  last_hop p r m = let q = mem_split m in go q.0 q.1 q.2 (subst (Rising ◌<◌) q.2 r)
    where
      go : (lo hi : List ℕ) → g p ≡ lo ++ t ∷ hi → Rising ◌<◌ (lo ++ t ∷ hi) → flat_map (by t seen (ways g t 0)) (g p) ≡ (t ∷ []) ∷ []
      go lo hi e r = rw (e, flat_map_append (by t seen (ways g t 0)) lo (t ∷ hi), last_none lo (λ i. absurd (omega (arith, rising_below ◌<◌ hi i r))), last_none hi (λ i. absurd (omega (arith, rising_above ◌<◌ t lo hi r t i))), eq-eqb t t refl)
