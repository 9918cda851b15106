-- The trail leads back.
use mathlib.Core.Path.{◌≡◌, refl, sym, ap, subst, ◌∙◌}
use mathlib.Core.List.{List, [], ◌∷◌, ◌++◌}
use mathlib.Core.Logic.{⊎_elim, inl, inr}
use Prim.Native.Nat.{ℕ, ◌+◌, ◌-◌, ◌*◌, ◌/◌, ◌%◌, ◌≤◌, ◌<◌}
use lib.ListN.{length, take, drop, get_or, set, length-set, take-append-drop}
use lib.Seq.{slice, slice_empty, take-suc, take-take, take-set-le, length-take-le, drop-append-le, get_or-take, get_or-set_same, set-set, set-get_or}
use native.Mathlib.Omega.{arith}
use native.Mathlib.Numerals.{add-one}
use Rattle.ways.proofs.Cases.{lt_or_le}
use Rattle.compact.specs.Compact.{persons}
use Rattle.barriers.specs.Trail.{heights, unwind, Entries, Trailed, Undoable, Raising, Raised}
use Rattle.barriers.specs.Squeezing.{Flat, Shorter}

pub unwind-append : (xs ys barriers : List ℕ) → unwind (xs ++ ys) barriers ≡ unwind xs (unwind ys barriers)
unfolding unwind
unwind-append [] ys barriers = refl
unwind-append (e ∷ xs) ys barriers = rw (unwind-append xs ys barriers)

slice_join : (l : List ℕ) (f m t : ℕ) → f ≤ m → m ≤ t → t ≤ length l → slice f t l ≡ slice f m l ++ slice m t l
slice_join l f m t fm mt tl =
    ap (drop f) (sym (take-append-drop m (take t l)) ∙ ap (λ (x : List ℕ). x ++ slice m t l) (take-take m t l mt))
    ∙ drop-append-le f (take m l) (slice m t l) (rw (length-take-le m l (omega arith)) fm)

slice_one : (l : List ℕ) (n : ℕ) → n < length l → slice n (n + 1) l ≡ get_or l n 0 ∷ []
slice_one l n h =
    ap (λ (k : ℕ). drop n (take k l)) (add-one n)
    ∙ ap (drop n) (take-suc l n 0 h)
    ∙ drop-append-le n (take n l) (get_or l n 0 ∷ []) (rw (length-take-le n l (omega arith)) (omega arith))
    ∙ ap (λ (x : List ℕ). x ++ (get_or l n 0 ∷ [])) (slice_empty n l)

-- ---- leading back

entries_none : {trail : List ℕ} {n : ℕ} → Entries trail n n
entries_none = record { each = λ i l h. absurd (omega arith) }

pub trailed_none : {trail : List ℕ} {n : ℕ} {barriers : List ℕ} → n ≤ length trail → Trailed trail n barriers trail n barriers
unfolding unwind
trailed_none {trail} {n} {barriers} h = record { rise = omega arith; fits = h; long = refl; keeps = refl; entries = entries_none; back = rw (slice_empty n trail) }

module _ {t₀ : List ℕ} {n₀ : ℕ} {b₀ t₁ : List ℕ} {n₁ : ℕ} {b₁ : List ℕ} (p : Trailed t₀ n₀ b₀ t₁ n₁ b₁) where
  pub trailed_trans : {t₂ : List ℕ} {n₂ : ℕ} {b₂ : List ℕ} → Trailed t₁ n₁ b₁ t₂ n₂ b₂ → Trailed t₀ n₀ b₀ t₂ n₂ b₂
  trailed_trans {t₂} {n₂} {b₂} q = record {
    rise = omega (arith, p.rise, q.rise);
    fits = q.fits;
    long = q.long ∙ p.long;
    keeps = sym (take-take n₀ n₁ t₂ p.rise) ∙ ap (take n₀) q.keeps ∙ take-take n₀ n₁ t₁ p.rise ∙ p.keeps;
    entries = record { each = λ i l h. ⊎_elim (λ m. omega (arith, same i m, p.entries.each i l m)) (λ m. q.entries.each i m h) (lt_or_le i n₁) };
    back =
        ap (λ (es : List ℕ). unwind es b₂) (slice_join t₂ n₀ n₁ n₂ p.rise q.rise q.fits)
        ∙ unwind-append (slice n₀ n₁ t₂) (slice n₁ n₂ t₂) b₂
        ∙ ap (unwind (slice n₀ n₁ t₂)) q.back
        ∙ ap (λ (l : List ℕ). unwind (drop n₀ l) b₁) q.keeps
        ∙ p.back;
  }
    where
      same : (i : ℕ) → i < n₁ → get_or t₂ i 0 ≡ get_or t₁ i 0
      same i m = sym (get_or-take n₁ t₂ i 0 m) ∙ ap (λ (l : List ℕ). get_or l i 0) q.keeps ∙ get_or-take n₁ t₁ i 0 m

  -- the entries that stood before are entries still, with the new ones behind them
  pub entries_on : {base : ℕ} → Entries t₀ base n₀ → Entries t₁ base n₁
  entries_on es = record { each = λ i l h. ⊎_elim (λ m. subst (λ (x : ℕ). x < persons * heights) (sym (before i m)) (es.each i l m)) (λ m. p.entries.each i m h) (lt_or_le i n₀) }
    where
      before : (i : ℕ) → i < n₀ → get_or t₁ i 0 ≡ get_or t₀ i 0
      before i m = sym (get_or-take n₀ t₁ i 0 m) ∙ ap (λ (l : List ℕ). get_or l i 0) p.keeps ∙ get_or-take n₀ t₀ i 0 m

  -- fewer entries that lead back to the same barriers
  pub trailed_shorter : {t₂ : List ℕ} {n₂ : ℕ} → Flat b₁ → Shorter b₁ t₁ t₂ n₀ n₁ n₂ → Trailed t₀ n₀ b₀ t₂ n₂ b₁
  trailed_shorter flat s = record { rise = s.rise; fits = s.fits; long = s.long ∙ p.long; keeps = s.keeps ∙ p.keeps; entries = s.entries; back = s.back flat b₁ ∙ p.back }

  -- the barriers put back
  pub trailed_undo : {b₂ : List ℕ} → b₂ ≡ unwind (slice n₀ n₁ t₁) b₁ → Trailed t₀ n₀ b₀ t₁ n₀ b₂
  unfolding unwind
  trailed_undo {b₂} e = record {
    rise = omega arith;
    fits = omega (arith, p.rise, p.fits);
    long = p.long;
    keeps = p.keeps;
    entries = entries_none;
    back = rw (slice_empty n₀ t₁) (e ∙ p.back);
  }

trailed_push : (trail : List ℕ) (n : ℕ) (barriers : List ℕ) (v barrier e : ℕ) → n < length trail → v < persons → e / heights ≡ v → e % heights ≡ get_or barriers v 0
    → Trailed trail n barriers (set trail n e) (n + 1) (set barriers v barrier)
unfolding unwind
trailed_push trail n barriers v barrier e h lv d m =
    let last : get_or (set trail n e) n 0 ≡ e = get_or-set_same trail n e 0 h in
    record {
      rise = omega arith;
      fits = rw length-set (omega arith);
      long = length-set trail n e;
      keeps = take-set-le n trail n e (omega arith);
      entries = record { each = λ i l k. let only : i ≡ n = omega arith in rw (only, last) (omega arith) };
      back =
          ap (λ (es : List ℕ). unwind es (set barriers v barrier)) (slice_one (set trail n e) n (rw length-set h) ∙ ap (λ (x : ℕ). x ∷ []) last)
          ∙ ap (set (set barriers v barrier) (e / heights)) m
          ∙ ap (λ (i : ℕ). set (set barriers v barrier) i (get_or barriers v 0)) d
          ∙ set-set barriers v barrier (get_or barriers v 0)
          ∙ set-get_or barriers v 0;
    }

-- ---- `undo`

-- the loop's invariant: what is still to be put back, put back, is what is asked for
pub record Undoing (barriers₀ trail : List ℕ) (low high : ℕ) (barriers : List ℕ) (n : ℕ) : Type 0 where
  pub asked : Undoable barriers trail low high
  pub above : low ≤ n
  pub below : n ≤ high
  pub right : unwind (slice low n trail) barriers ≡ unwind (slice low high trail) barriers₀

module _ {barriers₀ trail : List ℕ} {low high : ℕ} {barriers : List ℕ} {n : ℕ} (p : Undoing barriers₀ trail low high barriers n) where
  pub undo_turn : {barriers' : List ℕ} → low < n → barriers' ≡ set barriers (get_or trail (n - 1) 0 / heights) (get_or trail (n - 1) 0 % heights) → Undoing barriers₀ trail low high barriers' (n - 1)
  unfolding unwind
  undo_turn {barriers'} lt e =
      let k = p.asked in
      let within : n ≤ length trail = omega (arith, p.below, k.fits) in
      let m : n - 1 + 1 ≡ n = omega arith in
      let one : slice (n - 1) n trail ≡ get_or trail (n - 1) 0 ∷ [] = rw m at (slice_one trail (n - 1) (omega arith)) in
      let parts : slice low n trail ≡ slice low (n - 1) trail ++ (get_or trail (n - 1) 0 ∷ []) = slice_join trail low (n - 1) n (omega arith) (omega arith) within ∙ ap (λ (x : List ℕ). slice low (n - 1) trail ++ x) one in
      record {
        asked = record { wide = ap length e ∙ length-set barriers _ _ ∙ k.wide; rise = k.rise; fits = k.fits; entries = k.entries };
        above = omega arith;
        below = omega (arith, p.below);
        right = ap (unwind (slice low (n - 1) trail)) e ∙ sym (unwind-append (slice low (n - 1) trail) (get_or trail (n - 1) 0 ∷ []) barriers) ∙ ap (λ (x : List ℕ). unwind x barriers) (sym parts) ∙ p.right;
      }

  pub undo_end : n ≤ low → barriers ≡ unwind (slice low high trail) barriers₀
  unfolding unwind
  undo_end h =
      let e : n ≡ low = omega (arith, p.above) in
      rw (e, slice_empty low trail) at p.right

-- ---- `raise`

pub raise_none : {barriers trail : List ℕ} {v barrier n : ℕ} → Raising barriers trail v barrier n → Raised barriers barriers trail trail v barrier n n
raise_none k = record { only = inl refl; trailed = trailed_none k.fits }

pub raise_set : {barriers trail : List ℕ} {v barrier n x : ℕ} → Raising barriers trail v barrier n → n < length trail → x ≡ get_or barriers v 0
    → Raised barriers (set barriers v barrier) trail (set trail n (v * heights + x)) v barrier n (n + 1)
raise_set {barriers} {trail} {v} {barrier} {n} {x} k h e =
    record { only = inr refl; trailed = trailed_push trail n barriers v barrier (v * heights + x) h k.place (omega (arith, k.old)) (omega (arith, k.old)) }
