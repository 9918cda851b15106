-- Both directions round a ring: they are two rings, but where it has two hops, with one other person.
use mathlib.Core.Path.{◌≡◌, refl, sym, ap, ap₂, subst, ◌∙◌}
use mathlib.Core.Logic.{◌≢◌, ◌⊎◌, inl, inr}
use mathlib.Core.List.Memᴰ
use mathlib.Core.List.{List, [], ◌∷◌, ◌++◌, reverse, reverse-cons, reverse-append}
use Prim.Native.Nat.{ℕ, suc, ◌≤◌}
use native.Mathlib.Omega.{arith}
use lib.ListN.{length, length-append, length-reverse}
use Rattle.ways.specs.Graph.{Graph, ◌∈◌}
use Rattle.ways.specs.Chain.{Last, Linked, Distinct, hops}
use Rattle.ways.specs.Ring.{others, Ring}
use Rattle.ways.proofs.Cut.{last_behind, last_snoc, distinct_append}
use Rattle.ways.proofs.Listed.{last_in}

-- a list turned round: the same members, nobody twice, and the first is last
module _ {A : Type 0} where
  pub reverse_from : (l : List A) {x : A} → x ∈ reverse l → x ∈ l
  reverse_from [] m = m
  reverse_from (y ∷ l) {x} m = step (Memᴰ.append_cases (reverse l) (subst (λ r. x ∈ r) (reverse-cons y l) m)) (λ i. reverse_from l i)
    where
      step : (x ∈ reverse l) ⊎ (x ∈ y ∷ []) → (x ∈ reverse l → x ∈ l) → x ∈ y ∷ l
      step (inl i) on = Memᴰ.tail (on i)
      step (inr i) on = Memᴰ.head (Memᴰ.eq_of_singleton i)

  pub reverse_distinct : (l : List A) → Distinct l → Distinct (reverse l)
  reverse_distinct [] d = tt
  reverse_distinct (y ∷ l) d =
      subst Distinct (sym (reverse-cons y l))
      (distinct_append (reverse l) (y ∷ []) (reverse_distinct l d.1) (Memᴰ.not-nil, tt) (λ x i j. d.0 (Memᴰ.cast (sym (Memᴰ.eq_of_singleton j)) (reverse_from l i))))

-- two different persons at least, turned round, are another list
pub reverse_other : (l : List ℕ) → Distinct l → 2 ≤ length l → reverse l ≢ l
reverse_other [] d two e = absurd (omega arith)
reverse_other (x ∷ []) d two e = absurd (omega arith)
reverse_other (x ∷ y ∷ l) d two e = d.0 (last_in (y ∷ l) (subst (Last x) (sym (reverse-cons x (y ∷ l)) ∙ e) (last_snoc x (reverse (y ∷ l)))))

-- p, the others, and p again
round : ℕ → List ℕ → List ℕ
round p m = p ∷ (m ++ (p ∷ []))

others_round : (p : ℕ) (m : List ℕ) → others (round p m) ≡ m
unfolding round
others_round p [] = refl
others_round p (x ∷ []) = refl
others_round p (x ∷ y ∷ m) = ap (◌∷◌ x) (others_round p (y ∷ m))

hops_round : (p : ℕ) (m : List ℕ) → hops (round p m) ≡ suc (length m)
unfolding round
hops_round p m = omega (arith, length-append m (p ∷ []))

reverse_round : (p : ℕ) (m : List ℕ) → reverse (round p m) ≡ round p (reverse m)
unfolding round
reverse_round p m = reverse-cons p (m ++ (p ∷ [])) ∙ ap (λ l. l ++ (p ∷ [])) (reverse-append m (p ∷ []))

module _ {g : Graph} {p k : ℕ} where
  -- a ring is that, and that is a ring
  ring_round : (c : List ℕ) → Ring g p k c → c ≡ round p (others c)
  unfolding round
  ring_round [] h = absurd h.first
  ring_round (x ∷ []) h = absurd (omega arith)
  ring_round (x ∷ y ∷ w) h = ap₂ ◌∷◌ h.first (last_behind p (y ∷ w) h.last)

  round_ring : (m : List ℕ) → Linked g (round p m) → ¬ (p ∈ m) → Distinct m → 1 ≤ length m → suc (length m) ≤ k → Ring g p k (round p m)
  unfolding round
  round_ring m linked apart once some few =
      let same = others_round p m in
      let long = hops_round p m in
      record { first = refl; last = last_snoc p (p ∷ m); linked = linked; apart = λ i. apart (subst (λ l. p ∈ l) same i); once = subst Distinct (sym same) once; some = omega arith; few = omega arith }

  -- where the links are there both ways, the other direction is a ring too
  pub ring_reversed : (c : List ℕ) → Ring g p k c → Linked g (reverse c) → Ring g p k (reverse c)
  ring_reversed c h linked =
      let m = others c in
      let turned : reverse c ≡ round p (reverse m) = ap reverse (ring_round c h) ∙ reverse_round p m in
      let long : hops c ≡ suc (length m) = ap hops (ring_round c h) ∙ hops_round p m in
      let still = length-reverse m in
      subst (Ring g p k) (sym turned)
      (round_ring (reverse m) (subst (Linked g) turned linked) (λ i. h.apart (reverse_from m i)) (reverse_distinct m h.once) (omega (arith, h.some)) (omega (arith, h.few)))

  -- with three hops or more it is another ring; with two it is the same
  pub ring_other : (c : List ℕ) → Ring g p k c → 3 ≤ hops c → reverse c ≢ c
  ring_other c h three e =
      let m = others c in
      let is = ring_round c h in
      let long : hops c ≡ suc (length m) = ap hops is ∙ hops_round p m in
      let turned : round p (reverse m) ≡ round p m = sym (reverse_round p m) ∙ ap reverse (sym is) ∙ e ∙ is in
      reverse_other m h.once (omega arith) (sym (others_round p (reverse m)) ∙ ap others turned ∙ others_round p m)

  pub ring_same : (c : List ℕ) → Ring g p k c → hops c ≡ 2 → reverse c ≡ c
  ring_same c h two =
      let m = others c in
      let is = ring_round c h in
      let long : hops c ≡ suc (length m) = ap hops is ∙ hops_round p m in
      ap reverse is ∙ reverse_round p m ∙ ap (round p) (one m (omega arith)) ∙ sym is
    where
      one : (m : List ℕ) → length m ≡ 1 → reverse m ≡ m
      one [] e = absurd (omega arith)
      one (x ∷ []) e = refl
      one (x ∷ y ∷ m) e = absurd (omega arith)
