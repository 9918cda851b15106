-- A sequence of persons is cut at one of them, and put together again.
use mathlib.Core.Path.{◌≡◌, refl, sym, ap, ◌∙◌}
use mathlib.Core.Logic.{◌⊎◌, inl, inr}
use mathlib.Core.List.Memᴰ
use mathlib.Core.List.{List, [], ◌∷◌, ◌++◌, drop_last}
use Prim.Native.Nat.{ℕ}
use Rattle.ways.specs.Graph.{Graph, ◌∈◌}
use Rattle.ways.specs.Chain.{Last, Linked, Distinct}
use Rattle.ways.specs.Portions.{last_or}

-- links and last person, left and right of u
pub linked_left : (g : Graph) (u : ℕ) (lo hi : List ℕ) → Linked g (lo ++ u ∷ hi) → Linked g (lo ++ (u ∷ []))
linked_left g u [] hi l = tt
linked_left g u (p ∷ []) hi l = (l.0, tt)
linked_left g u (p ∷ q ∷ lo) hi l = (l.0, linked_left g u (q ∷ lo) hi l.1)

pub linked_right : (g : Graph) (u : ℕ) (lo hi : List ℕ) → Linked g (lo ++ u ∷ hi) → Linked g (u ∷ hi)
linked_right g u [] hi l = l
linked_right g u (p ∷ []) hi l = l.1
linked_right g u (p ∷ q ∷ lo) hi l = linked_right g u (q ∷ lo) hi l.1

pub last_right : (t u : ℕ) (lo hi : List ℕ) → Last t (lo ++ u ∷ hi) → Last t (u ∷ hi)
last_right t u [] hi l = l
last_right t u (p ∷ []) hi l = l
last_right t u (p ∷ q ∷ lo) hi l = last_right t u (q ∷ lo) hi l

pub last_snoc : (u : ℕ) (lo : List ℕ) → Last u (lo ++ (u ∷ []))
last_snoc u [] = refl
last_snoc u (p ∷ []) = refl
last_snoc u (p ∷ q ∷ lo) = last_snoc u (q ∷ lo)

-- the last stands behind the others
pub last_behind : (t : ℕ) (l : List ℕ) → Last t l → l ≡ drop_last l ++ (t ∷ [])
last_behind t [] h = absurd h
last_behind t (p ∷ []) h = ap (λ x. x ∷ []) h
last_behind t (p ∷ q ∷ l) h = ap (◌∷◌ p) (last_behind t (q ∷ l) h)

pub last_or_last : (p : ℕ) (l : List ℕ) → Last (last_or p l) (p ∷ l)
last_or_last p [] = refl
last_or_last p (q ∷ l) = last_or_last q l

pub last_last_or : (m p : ℕ) (l : List ℕ) → Last m (p ∷ l) → last_or p l ≡ m
last_last_or m p [] h = h
last_last_or m p (q ∷ l) h = last_last_or m q l h

pub last_only : (t u : ℕ) (l : List ℕ) → Last t l → Last u l → t ≡ u
last_only t u [] h i = absurd h
last_only t u (p ∷ l) h i = sym (last_last_or t p l h) ∙ last_last_or u p l i

-- and together
pub linked_append : (g : Graph) (u : ℕ) (lo hi : List ℕ) → Linked g (lo ++ (u ∷ [])) → Linked g (u ∷ hi) → Linked g (lo ++ u ∷ hi)
linked_append g u [] hi l r = r
linked_append g u (p ∷ []) hi l r = (l.0, r)
linked_append g u (p ∷ q ∷ lo) hi l r = (l.0, linked_append g u (q ∷ lo) hi l.1 r)

pub last_append : (t u : ℕ) (lo hi : List ℕ) → Last t (u ∷ hi) → Last t (lo ++ u ∷ hi)
last_append t u [] hi l = l
last_append t u (p ∷ []) hi l = l
last_append t u (p ∷ q ∷ lo) hi l = last_append t u (q ∷ lo) hi l

-- nobody twice: not in either part, and nobody in both
module _ {A : Type 0} where
  pub distinct_left : (l m : List A) → Distinct (l ++ m) → Distinct l
  distinct_left [] m d = tt
  distinct_left (x ∷ l) m d = ((λ i. d.0 (Memᴰ.append_left m i)), distinct_left l m d.1)

  pub distinct_right : (l m : List A) → Distinct (l ++ m) → Distinct m
  distinct_right [] m d = d
  distinct_right (x ∷ l) m d = distinct_right l m d.1

  pub distinct_apart : {x : A} {l : List A} (m : List A) → x ∈ l → Distinct (l ++ m) → ¬ (x ∈ m)
  distinct_apart m (Memᴰ.head {xs = l} e) d i = d.0 (Memᴰ.append_right l (Memᴰ.cast (sym e) i))
  distinct_apart m (Memᴰ.tail j) d i = distinct_apart m j d.1 i

  pub distinct_append : (l m : List A) → Distinct l → Distinct m → ((x : A) → x ∈ l → ¬ (x ∈ m)) → Distinct (l ++ m)
  distinct_append [] m d e h = e
  distinct_append (x ∷ l) m d e h = ((λ i. step (Memᴰ.append_cases l i)), distinct_append l m d.1 e (λ y j. h y (Memᴰ.tail j)))
    where
      step : (x ∈ l) ⊎ (x ∈ m) → ⊥
      step (inl i) = d.0 i
      step (inr i) = h x (Memᴰ.head refl) i
