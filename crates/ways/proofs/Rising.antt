-- Lists that rise in an order: nothing stands there twice, and the members determine the list.
use mathlib.Core.Path.{◌≡◌, refl, sym, ap₂, subst, ◌∙◌}
use mathlib.Core.Logic.{◌↔◌, ◌⊎◌, inl, inr}
use mathlib.Core.Bool.{Bool, true, false, cond}
use mathlib.Core.List.Memᴰ
use mathlib.Core.List.{List, [], ◌∷◌, ◌++◌, map, flat_map}
use Rattle.ways.specs.Graph.{◌∈◌, keep}
use Rattle.ways.specs.Chain.{Distinct}
use Rattle.ways.specs.Order.{Rising}
use Rattle.ways.proofs.Members.{flat_map_from, keep_from}

-- each one of l stands before the next
abbrev pub Steps : {A : Type 0} → (A → A → Type 0) → List A → Type 0
Steps R [] = Unit {0}
Steps R (x ∷ []) = Unit {0}
Steps R (x ∷ y ∷ l) = R x y × Steps R (y ∷ l)

-- one list after another, neighbours, and what the members tell
module _ {A : Type 0} (R : A → A → Type 0) where
  pub rising_append : (l m : List A) → Rising R l → Rising R m → ((x y : A) → x ∈ l → y ∈ m → R x y) → Rising R (l ++ m)
  rising_append [] m r q h = q
  rising_append (x ∷ l) m r q h = ((λ y i. step y (Memᴰ.append_cases l i)), rising_append l m r.1 q (λ y z i j. h y z (Memᴰ.tail i) j))
    where
      step : (y : A) → (y ∈ l) ⊎ (y ∈ m) → R x y
      step y (inl i) = r.0 y i
      step y (inr i) = h x y (Memᴰ.head refl) i

  -- where the order is transitive it is enough to look at neighbours
  pub steps_rising : ((x y z : A) → R x y → R y z → R x z) → (l : List A) → Steps R l → Rising R l
  steps_rising tr [] h = tt
  steps_rising tr (x ∷ []) h = ((λ y m. absurd (Memᴰ.not-nil m)), tt)
  steps_rising tr (x ∷ y ∷ l) h = step (steps_rising tr (y ∷ l) h.1)
    where
      all : Rising R (y ∷ l) → (z : A) → (z ≡ y) ⊎ (z ∈ l) → R x z
      all r z (inl e) = subst (λ z. R x z) (sym e) h.0
      all r z (inr m) = tr x y z h.0 (r.0 z m)

      step : Rising R (y ∷ l) → Rising R (x ∷ y ∷ l)
      step r = ((λ z m. all r z (Memᴰ.cases_cons m)), r)

  module _ (asym : (x y : A) → R x y → R y x → ⊥) where
    irr : {x y : A} → x ≡ y → ¬ R x y
    irr {x} e r = asym x x (subst (λ z. R x z) (sym e) r) (subst (λ z. R x z) (sym e) r)

    -- nothing stands twice in a rising list
    pub rising_distinct : (l : List A) → Rising R l → Distinct l
    rising_distinct [] r = tt
    rising_distinct (x ∷ l) r = ((λ m. irr refl (r.0 x m)), rising_distinct l r.1)

    -- two rising lists with the same members are one list
    pub only : (l m : List A) → Rising R l → Rising R m → ((x : A) → x ∈ l → x ∈ m) → ((x : A) → x ∈ m → x ∈ l) → l ≡ m
    only [] [] r q f h = refl
    only [] (y ∷ m) r q f h = absurd (Memᴰ.not-nil (h y (Memᴰ.head refl)))
    only (x ∷ l) [] r q f h = absurd (Memᴰ.not-nil (f x (Memᴰ.head refl)))
    only (x ∷ l) (y ∷ m) r q f h = ap₂ ◌∷◌ eq (only l m r.1 q.1 (λ z i. left z i (Memᴰ.cases_cons (f z (Memᴰ.tail i)))) (λ z i. right z i (Memᴰ.cases_cons (h z (Memᴰ.tail i)))))
      where
        heads : (x ≡ y) ⊎ (x ∈ m) → (y ≡ x) ⊎ (y ∈ l) → x ≡ y
        heads (inl e) j = e
        heads (inr i) (inl e) = sym e
        heads (inr i) (inr j) = absurd (asym x y (r.0 y j) (q.0 x i))

        eq : x ≡ y
        eq = heads (Memᴰ.cases_cons (f x (Memᴰ.head refl))) (Memᴰ.cases_cons (h y (Memᴰ.head refl)))

        left : (z : A) → z ∈ l → (z ≡ y) ⊎ (z ∈ m) → z ∈ m
        left z i (inl e) = absurd (irr (eq ∙ sym e) (r.0 z i))
        left z i (inr j) = j

        right : (z : A) → z ∈ m → (z ≡ x) ⊎ (z ∈ l) → z ∈ l
        right z i (inl e) = absurd (irr (sym eq ∙ sym e) (q.0 z i))
        right z i (inr j) = j

    -- so whoever says who stands there names one rising list at most
    pub one_list : (Is : A → Type 0) (l m : List A) → Rising R l → Rising R m → ((x : A) → x ∈ l ↔ Is x) → ((x : A) → x ∈ m ↔ Is x) → l ≡ m
    one_list Is l m r q f h = only l m r q (λ x i. (h x).1 ((f x).0 i)) (λ x i. (f x).1 ((h x).0 i))

-- below x and above x
pub rising_below : {A : Type 0} (R : A → A → Type 0) {x y : A} {lo : List A} (hi : List A) → y ∈ lo → Rising R (lo ++ x ∷ hi) → R y x
rising_below R {x} hi (Memᴰ.head {xs = l} e) r = subst (λ z. R z x) (sym e) (r.0 x (Memᴰ.append_right l (Memᴰ.head refl)))
rising_below R hi (Memᴰ.tail m) r = rising_below R hi m r.1

pub rising_above : {A : Type 0} (R : A → A → Type 0) (x : A) (lo hi : List A) → Rising R (lo ++ x ∷ hi) → (y : A) → y ∈ hi → R x y
rising_above R x [] hi r = r.0
rising_above R x (z ∷ lo) hi r = rising_above R x lo hi r.1

-- through a test, a function, and lists one after the other
module _ {A : Type 0} (R : A → A → Type 0) where
  pub rising_keep : (f : A → Bool) (l : List A) → Rising R l → Rising R (keep f l)
  unfolding keep
  rising_keep f [] r = tt
  rising_keep f (x ∷ l) r = go (f x) (rising_keep f l r.1)
    where
      go : (t : Bool) → Rising R (keep f l) → Rising R (cond t (x ∷ keep f l) (keep f l))
      go true q = ((λ y m. r.0 y (keep_from f l m).0), q)
      go false q = q

  module _ {B : Type 0} (S : B → B → Type 0) where
    pub rising_by : (f : A → B) (l : List A) → Rising R l → ((x y : A) → x ∈ l → y ∈ l → R x y → S (f x) (f y)) → Rising S (map f l)
    rising_by f [] r h = tt
    rising_by f (x ∷ l) r h = ((λ b m. step b (Memᴰ.of_map f l m)), rising_by f l r.1 (λ y z i j. h y z (Memᴰ.tail i) (Memᴰ.tail j)))
      where
        step : (b : B) → (y : A) × (y ∈ l) × (f y ≡ b) → S (f x) b
        step b q = subst (λ z. S (f x) z) q.2 (h x q.0 (Memᴰ.head refl) (Memᴰ.tail q.1) (r.0 q.0 q.1))

    pub rising_across : (f : A → List B) (l : List A) → Rising R l → ((x : A) → x ∈ l → Rising S (f x)) → ((x y : A) → x ∈ l → y ∈ l → R x y → (a b : B) → a ∈ f x → b ∈ f y → S a b) → Rising S (flat_map f l)
    unfolding flat_map
    rising_across f [] r all h = tt
    rising_across f (x ∷ l) r all h =
        rising_append S (f x) (flat_map f l) (all x (Memᴰ.head refl))
        (rising_across f l r.1 (λ y m. all y (Memᴰ.tail m)) (λ y z i j. h y z (Memᴰ.tail i) (Memᴰ.tail j)))
        (λ a b i j. step a b i (flat_map_from f l j))
      where
        step : (a b : B) → a ∈ f x → (y : A) × (y ∈ l) × (b ∈ f y) → S a b
        step a b i q = h x q.0 (Memᴰ.head refl) (Memᴰ.tail q.1) (r.0 q.0 q.1) a b i q.2

-- in another order
pub rising_within : {A : Type 0} (R S : A → A → Type 0) (l : List A) → Rising R l → ((x y : A) → x ∈ l → y ∈ l → R x y → S x y) → Rising S l
rising_within R S [] r h = tt
rising_within R S (x ∷ l) r h = ((λ y m. h x y (Memᴰ.head refl) (Memᴰ.tail m) (r.0 y m)), rising_within R S l r.1 (λ y z i j. h y z (Memᴰ.tail i) (Memᴰ.tail j)))
