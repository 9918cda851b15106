-- Who stands in a list: in a flat_map, in a part of a list, by the test `among`.
use mathlib.Core.Path.{◌≡◌, refl, sym, ap, subst, ◌∙◌}
use mathlib.Core.Logic.{◌≢◌, ◌⊎◌, inl, inr}
use mathlib.Core.Bool.{Bool, true, false, true≢false, false≢true, cond}
use mathlib.Core.List.Memᴰ
use mathlib.Core.List.{List, [], ◌∷◌, ◌++◌, flat_map, append_assoc}
use Prim.Native.Nat.{ℕ, zero, suc}
use lib.ListN.{take}
use lib.Dec.{eqb}
use borrow.Author.Tests.{eqb-true, eq-eqb}
use Rattle.ways.specs.Graph.{◌∈◌, among, keep}

-- membership in a flat_map
module _ {A B : Type 0} where
  pub flat_map_in : (f : A → List B) {x : A} {l : List A} {y : B} → x ∈ l → y ∈ f x → y ∈ flat_map f l
  unfolding flat_map
  flat_map_in f {y = y} (Memᴰ.head e) m = Memᴰ.append_left _ (subst (λ z. y ∈ f z) e m)
  flat_map_in f (Memᴰ.tail {x = z} n) m = Memᴰ.append_right (f z) (flat_map_in f n m)

  pub flat_map_from : (f : A → List B) (l : List A) {y : B} → y ∈ flat_map f l → (x : A) × (x ∈ l) × (y ∈ f x)
  unfolding flat_map
  flat_map_from f [] m = absurd (Memᴰ.not-nil m)
  flat_map_from f (x ∷ l) {y} m = step (λ n. flat_map_from f l n) (Memᴰ.append_cases (f x) m)
    where
      step : (y ∈ flat_map f l → (z : A) × (z ∈ l) × (y ∈ f z)) → (y ∈ f x) ⊎ (y ∈ flat_map f l) → (z : A) × (z ∈ x ∷ l) × (y ∈ f z)
      step on (inl n) = (x, Memᴰ.head refl, n)
      step on (inr n) = let r = on n in (r.0, Memᴰ.tail r.1, r.2)

-- the test `among`
pub among_true : (p : ℕ) (l : List ℕ) → among p l ≡ true → p ∈ l
unfolding among
among_true p [] e = absurd (false≢true e)
among_true p (q ∷ l) e = go (eqb p q) refl e (λ i. among_true p l i)
  where
    go : (b : Bool) → eqb p q ≡ b → cond b true (among p l) ≡ true → (among p l ≡ true → p ∈ l) → p ∈ q ∷ l
    go true h i on = Memᴰ.head (eqb-true p q h)
    go false h i on = Memᴰ.tail (on i)

pub mem_among : {p : ℕ} {l : List ℕ} → p ∈ l → among p l ≡ true
unfolding among
mem_among {p} (Memᴰ.head {x = q} e) = rw (eq-eqb p q e)
mem_among {p} (Memᴰ.tail {x = q} {xs = l} m) = go (eqb p q) (mem_among m)
  where
    go : (b : Bool) → among p l ≡ true → cond b true (among p l) ≡ true
    go true h = refl
    go false h = h

pub among_false : {p : ℕ} {l : List ℕ} → among p l ≡ false → ¬ (p ∈ l)
among_false e m = true≢false (sym (mem_among m) ∙ e)

pub out_among : {p : ℕ} {l : List ℕ} → ¬ (p ∈ l) → among p l ≡ false
out_among {p} {l} n = go (among p l) refl
  where
    go : (b : Bool) → among p l ≡ b → among p l ≡ false
    go true h = absurd (n (among_true p l h))
    go false h = h

-- whether p is at the end or before is asked in any order
pub among_end : (p q : ℕ) (l : List ℕ) → among p (l ++ q ∷ []) ≡ among p (q ∷ l)
unfolding among
among_end p q [] = refl
among_end p q (r ∷ l) = go (eqb p q) (eqb p r) (among_end p q l)
  where
    go : (b c : Bool) → among p (l ++ q ∷ []) ≡ cond b true (among p l) → cond c true (among p (l ++ q ∷ [])) ≡ cond b true (cond c true (among p l))
    go true true e = refl
    go true false e = e
    go false true e = refl
    go false false e = e

-- neither v nor in l
pub out : {x v : ℕ} {l : List ℕ} → x ≢ v → ¬ (x ∈ l) → ¬ (x ∈ v ∷ l)
out n o (Memᴰ.head e) = n e
out n o (Memᴰ.tail m) = o m

-- all of a stand in b
abbrev pub Within : List ℕ → List ℕ → Type 0
Within a b = (x : ℕ) → x ∈ a → x ∈ b

pub within-cons : {a b : List ℕ} (v : ℕ) → Within a b → Within (v ∷ a) (v ∷ b)
within-cons v h x (Memᴰ.head e) = Memᴰ.head e
within-cons v h x (Memᴰ.tail m) = Memᴰ.tail (h x m)

pub swap : (u v : ℕ) (l : List ℕ) → Within (u ∷ v ∷ l) (v ∷ u ∷ l)
swap u v l x (Memᴰ.head e) = Memᴰ.tail (Memᴰ.head e)
swap u v l x (Memᴰ.tail (Memᴰ.head e)) = Memᴰ.head e
swap u v l x (Memᴰ.tail (Memᴰ.tail m)) = Memᴰ.tail (Memᴰ.tail m)

-- a row in two parts
pub flat_map_append : {A B : Type 0} (f : A → List B) (l m : List A) → flat_map f (l ++ m) ≡ flat_map f l ++ flat_map f m
unfolding flat_map
flat_map_append f [] m = refl
flat_map_append f (x ∷ l) m = rw (flat_map_append f l m, append_assoc)

-- the first r of l stand in l
pub take_in : {A : Type 0} (r : ℕ) (l : List A) {x : A} → x ∈ take r l → x ∈ l
take_in zero l m = absurd (Memᴰ.not-nil m)
take_in (suc r) [] m = m
take_in (suc r) (y ∷ l) {x} m = step (λ i. take_in r l i) (Memᴰ.cases_cons m)
  where
    step : (x ∈ take r l → x ∈ l) → (x ≡ y) ⊎ (x ∈ take r l) → x ∈ y ∷ l
    step on (inl e) = Memᴰ.head e
    step on (inr i) = Memᴰ.tail (on i)

-- a list without members
pub nobody : {A : Type 0} (l : List A) → ((x : A) → ¬ (x ∈ l)) → l ≡ []
nobody [] n = refl
nobody (x ∷ l) n = absurd (n x (Memᴰ.head refl))

-- a member parts its list
pub mem_split : {A : Type 0} {x : A} {l : List A} → x ∈ l → (lo : List A) × (hi : List A) × (l ≡ lo ++ x ∷ hi)
mem_split (Memᴰ.head {xs = l} e) = ([], l, ap (λ y. y ∷ l) (sym e))
mem_split (Memᴰ.tail {x = y} m) = let r = mem_split m in (y ∷ r.0, r.1, ap (◌∷◌ y) r.2)

-- those that pass a test
module _ {A : Type 0} (f : A → Bool) where
  pub keep_from : (l : List A) {x : A} → x ∈ keep f l → (x ∈ l) × (f x ≡ true)
  unfolding keep
  keep_from [] m = absurd (Memᴰ.not-nil m)
  keep_from (y ∷ l) {x} m = go (f y) refl m (λ i. keep_from l i)
    where
      go : (t : Bool) → f y ≡ t → x ∈ cond t (y ∷ keep f l) (keep f l) → (x ∈ keep f l → (x ∈ l) × (f x ≡ true)) → (x ∈ y ∷ l) × (f x ≡ true)
      go true e (Memᴰ.head h) on = (Memᴰ.head h, ap f h ∙ e)
      go true e (Memᴰ.tail i) on = let r = on i in (Memᴰ.tail r.0, r.1)
      go false e i on = let r = on i in (Memᴰ.tail r.0, r.1)

  pub keep_in : {x : A} {l : List A} → x ∈ l → f x ≡ true → x ∈ keep f l
  unfolding keep
  keep_in (Memᴰ.head h) e = rw (ap f (sym h) ∙ e) (Memᴰ.head h)
  keep_in {x} (Memᴰ.tail {x = y} {xs = l} m) e = go (f y) (keep_in m e)
    where
      go : (t : Bool) → x ∈ keep f l → x ∈ cond t (y ∷ keep f l) (keep f l)
      go true i = Memᴰ.tail i
      go false i = i

  pub keep_all : (l : List A) → ((x : A) → x ∈ l → f x ≡ true) → keep f l ≡ l
  unfolding keep
  keep_all [] h = refl
  keep_all (x ∷ l) h = rw (h x (Memᴰ.head refl)) (ap (◌∷◌ x) (keep_all l (λ y m. h y (Memᴰ.tail m))))

  pub keep_append : (l m : List A) → keep f (l ++ m) ≡ keep f l ++ keep f m
  unfolding keep
  keep_append [] m = refl
  keep_append (x ∷ l) m = go (f x) (keep_append l m)
    where
      go : (t : Bool) → keep f (l ++ m) ≡ keep f l ++ keep f m → cond t (x ∷ keep f (l ++ m)) (keep f (l ++ m)) ≡ cond t (x ∷ keep f l) (keep f l) ++ keep f m
      go true e = ap (◌∷◌ x) e
      go false e = e
