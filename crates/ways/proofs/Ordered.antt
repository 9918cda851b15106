-- Dictionary order is an order; `listing` rises in it, and is the only such list.
use mathlib.Core.Path.{◌≡◌, refl, sym, subst₂, ◌∙◌}
use mathlib.Core.Logic.{◌≢◌, ◌↔◌}
use mathlib.Core.Bool.{Bool, true, false, false≢true, cond}
use mathlib.Core.List.Memᴰ
use mathlib.Core.List.{List, [], ◌∷◌, ◌++◌, map, flat_map}
use Prim.Native.Nat.{ℕ, zero, suc, ◌<◌}
use native.Mathlib.Omega.{arith}
use lib.ListN.{length}
use lib.Dec.{eqb, ltb}
use borrow.Author.Tests.{eqb-true, eq-eqb, ltb-true, lt-ltb, le-ltb}
use Rattle.ways.specs.Graph.{Graph, ◌∈◌, among}
use Rattle.ways.specs.Chain.{Distinct, Chain}
use Rattle.ways.specs.Order.{Before, short, less, same, before, Rising}
use Rattle.ways.specs.Listing.{by, ways, listing}
use Rattle.ways.proofs.Listed.{exact}
use Rattle.ways.proofs.Rising.{rising_distinct, one_list, rising_by, rising_across}

-- dictionary order is an order
pub before_trans : {a b c : List ℕ} → Before a b → Before b c → Before a c
before_trans short (less h) = short
before_trans short (same e r) = short
before_trans (less {x = x} h) (less {y = z} i) = less {x = x} {y = z} (omega arith)
before_trans (less {x = x} h) (same {y = z} e r) = less {x = x} {y = z} (omega arith)
before_trans (same {x = x} e r) (less {y = z} h) = less {x = x} {y = z} (omega arith)
before_trans (same e r) (same f q) = same (e ∙ f) (before_trans r q)

pub before_asym : {a b : List ℕ} → Before a b → ¬ Before b a
before_asym (short {y = y} {b = b}) x4 = elim x4 [ ]
before_asym (less h) (less i) = omega arith
before_asym (less h) (same e r) = omega arith
before_asym (same e r) (less h) = omega arith
before_asym (same e r) (same f q) = before_asym r q

-- the test and the order say the same
pub before_true : (a b : List ℕ) → before a b ≡ true → Before a b
unfolding before
before_true a [] e = absurd (false≢true e)
before_true [] (y ∷ b) e = short
before_true (x ∷ a) (y ∷ b) e = go (ltb x y) (eqb x y) refl refl e (λ h. before_true a b h)
  where
    go : (l m : Bool) → ltb x y ≡ l → eqb x y ≡ m → cond l true (cond m (before a b) false) ≡ true → (before a b ≡ true → Before a b) → Before (x ∷ a) (y ∷ b)
    go true m h i e on = less (ltb-true x y h)
    go false true h i e on = same (eqb-true x y i) (on e)
    go false false h i e on = absurd (false≢true e)

pub true_before : {a b : List ℕ} → Before a b → before a b ≡ true
unfolding before
true_before short = refl
true_before (less {x = x} {y = y} h) = rw (lt-ltb x y h)
true_before (same {x = x} {y = y} e r) = rw (le-ltb x y (omega arith), eq-eqb x y e) (true_before r)

pub false_before : (a b : List ℕ) → ¬ Before a b → before a b ≡ false
false_before a b n = go (before a b) refl
  where
    go : (t : Bool) → before a b ≡ t → before a b ≡ false
    go true h = absurd (n (before_true a b h))
    go false h = h

-- what stands behind equal beginnings decides; what stands behind different ones of one length does not
pub before-append : (l : List ℕ) {a b : List ℕ} → Before a b → Before (l ++ a) (l ++ b)
before-append [] r = r
before-append (x ∷ l) r = same refl (before-append l r)

pub before_longer : {a b : List ℕ} (c d : List ℕ) → Before a b → length a ≡ length b → Before (a ++ c) (b ++ d)
before_longer c d short e = absurd (omega arith)
before_longer c d (less h) e = less h
before_longer c d (same {a = a} {b = b} h r) e = let i : length a ≡ length b = omega arith in same h (before_longer c d r i)

-- nothing stands twice in a list that rises
pub rising_once : (L : List (List ℕ)) → Rising Before L → Distinct L
rising_once L r = rising_distinct Before (λ a b. before_asym) L r

-- a row of lists that all begin with x
abbrev pub Heads : ℕ → List (List ℕ) → Type 0
Heads x L = (c : List ℕ) → c ∈ L → (w : List ℕ) × (c ≡ x ∷ w)

pub rising_map : (x : ℕ) (L : List (List ℕ)) → Rising Before L → Rising Before (map (◌∷◌ x) L)
rising_map x L r = rising_by Before Before (◌∷◌ x) L r (λ a b i j h. same refl h)

pub rising_flat_map : (f : ℕ → List (List ℕ)) (row : List ℕ) → Rising ◌<◌ row → ((x : ℕ) → Rising Before (f x)) → ((x : ℕ) → Heads x (f x)) → Rising Before (flat_map f row)
rising_flat_map f row r all heads = rising_across ◌<◌ Before f row r (λ x m. all x) step
  where
    step : (x y : ℕ) → x ∈ row → y ∈ row → x < y → (a b : List ℕ) → a ∈ f x → b ∈ f y → Before a b
    step x y m n l a b i j =
        let u = heads x a i in
        let v = heads y b j in
        subst₂ Before (sym u.1) (sym v.1) (less l)

-- those that begin with v, unless a test forbids it
module _ (v : ℕ) (M : List (List ℕ)) where
  pub unless_from : (b : Bool) {c : List ℕ} → c ∈ cond b [] (map (◌∷◌ v) M) → (b ≡ false) × (w : List ℕ) × (w ∈ M) × (v ∷ w ≡ c)
  unless_from true m = absurd (Memᴰ.not-nil m)
  unless_from false m = let r = Memᴰ.of_map (◌∷◌ v) M m in (refl, r.0, r.1, r.2)

  pub unless_heads : (b : Bool) → Heads v (cond b [] (map (◌∷◌ v) M))
  unless_heads b c m = let r = unless_from b m in (r.1, sym r.3)

  pub unless_rising : (b : Bool) → Rising Before M → Rising Before (cond b [] (map (◌∷◌ v) M))
  unless_rising true r = tt
  unless_rising false r = rising_map v M r

-- so for each person of a rising row
pub unless-row : (f : ℕ → Bool) (M : ℕ → List (List ℕ)) (row : List ℕ) → Rising ◌<◌ row → ((v : ℕ) → Rising Before (M v)) → Rising Before (flat_map (λ v. cond (f v) [] (map (◌∷◌ v) (M v))) row)
unless-row f M row r all = rising_flat_map _ row r (λ v. unless_rising v (M v) (f v) (all v)) (λ v. unless_heads v (M v) (f v))

-- `by`: all begin with v, and rise
pub by_heads : (t : ℕ) (seen : List ℕ) (on : List ℕ → ℕ → List (List ℕ)) (v : ℕ) → Heads v (by t seen on v)
unfolding by
by_heads t seen on v c m = go (eqb v t) m
  where
    go : (l : Bool) → c ∈ cond l ((v ∷ []) ∷ []) (cond (among v seen) [] (map (◌∷◌ v) (on (v ∷ seen) v))) → (w : List ℕ) × (c ≡ v ∷ w)
    go true m = ([], Memᴰ.eq_of_singleton m)
    go false m = unless_heads v (on (v ∷ seen) v) (among v seen) c m

pub by_rising : (t : ℕ) (seen : List ℕ) (on : List ℕ → ℕ → List (List ℕ)) (v : ℕ) → Rising Before (on (v ∷ seen) v) → Rising Before (by t seen on v)
unfolding by
by_rising t seen on v r = go (eqb v t)
  where
    go : (l : Bool) → Rising Before (cond l ((v ∷ []) ∷ []) (cond (among v seen) [] (map (◌∷◌ v) (on (v ∷ seen) v))))
    go true = ((λ y m. absurd (Memᴰ.not-nil m)), tt)
    go false = unless_rising v (on (v ∷ seen) v) (among v seen) r

module _ (g : Graph) (rows : (p : ℕ) → Rising ◌<◌ (g p)) where
  pub ways_rising : (t k : ℕ) (seen : List ℕ) (p : ℕ) → Rising Before (ways g t k seen p)
  unfolding ways
  ways_rising t zero seen p = tt
  ways_rising t (suc k) seen p = rising_flat_map _ (g p) (rows p) (λ v. by_rising t seen (ways g t k) v (ways_rising t k (v ∷ seen) v)) (by_heads t seen (ways g t k))

  -- the theorem: the listing rises
  pub ordered : (s t k : ℕ) → Rising Before (listing g s t k)
  unfolding listing
  ordered s t k = rising_map s (ways g t k (s ∷ []) s) (ways_rising t k (s ∷ []) s)

  -- so each chain stands there once
  pub once_each : (s t k : ℕ) → Distinct (listing g s t k)
  once_each s t k = rising_once (listing g s t k) (ordered s t k)

  -- every chain, nothing else, in dictionary order: there is one such list
  pub determined : (s t k : ℕ) → s ≢ t → (L : List (List ℕ)) → Rising Before L → ((c : List ℕ) → c ∈ L ↔ Chain g s t k c) → L ≡ listing g s t k
  determined s t k ne L r h = one_list Before (λ a b. before_asym) (Chain g s t k) L (listing g s t k) r (ordered s t k) h (exact g s t k ne)
