-- Squeezing: without the later entries of a person the trail leads back to the same barriers.
use mathlib.Core.Path.{◌≡◌, refl, sym, ap, subst, ◌∙◌}
use mathlib.Core.Bool.{Bool, true, false}
use mathlib.Core.List.Memᴰ
use mathlib.Core.List.{List, [], ◌∷◌, ◌++◌, map-append}
use mathlib.Core.Logic.{◌⊎◌, ⊎_elim, inl, inr}
use Prim.Native.Nat.{ℕ, suc, ◌+◌, ◌-◌, ◌*◌, ◌/◌, ◌%◌, ◌≤◌, ◌<◌}
use lib.ListN.{length, take, drop, get_or, set, length-set, drop_of_length-le}
use lib.Seq.{slice, slice-cons, drop-cons, take-suc-set, take-set-le, length-take-le, drop-append-le, get_or-set_same, get_or-set_other, set-set, set_comm, append_snoc}
use native.Mathlib.Omega.{arith}
use native.Mathlib.Numerals.{add-one}
use Rattle.ways.specs.Graph.{◌∈◌}
use Rattle.ways.proofs.Cases.{same_or_not, lt_or_le}
use Rattle.ways.proofs.Parts.{part_slice}
use Rattle.compact.specs.Compact.{persons}
use Rattle.barriers.specs.Trail.{heights, unwind, Entries, Undoable}
use Rattle.barriers.specs.Squeezing.{Flat, Squeezed, persons_in, Marked, First, FirstsKept, Unmarked}
use Rattle.barriers.proofs.Unwinding.{unwind-append}

-- ---- the first entry tells

-- what is put back at last hides what was there
last_set : (es b : List ℕ) (p x y : ℕ) → set (unwind es (set b p x)) p y ≡ set (unwind es b) p y
unfolding unwind
last_set [] b p x y = set-set b p x y
last_set (e ∷ es) b p x y =
    ⊎_elim
    (λ q.
    ap (λ (r : ℕ). set (set (unwind es (set b p x)) r (e % heights)) p y) q
    ∙ set-set (unwind es (set b p x)) p (e % heights) y
    ∙ last_set es b p x y
    ∙ sym (set-set (unwind es b) p (e % heights) y)
    ∙ ap (λ (r : ℕ). set (set (unwind es b) r (e % heights)) p y) (sym q))
    (λ q.
    set_comm (unwind es (set b p x)) (e / heights) p (e % heights) y q
    ∙ ap (λ (l : List ℕ). set l (e / heights) (e % heights)) (last_set es b p x y)
    ∙ sym (set_comm (unwind es b) (e / heights) p (e % heights) y q))
    (same_or_not (e / heights) p)

-- a person who has an entry already
again_same : (es b : List ℕ) (p x : ℕ) → p ∈ persons_in es → unwind es (set b p x) ≡ unwind es b
unfolding unwind
again_same [] b p x m = absurd (Memᴰ.not-nil m)
again_same (e ∷ es) b p x m =
    ⊎_elim
    (λ q. rw (← q) (last_set es b p x (e % heights)))
    (λ n. ap (λ (l : List ℕ). set l (e / heights) (e % heights)) (again_same es b p x n))
    (Memᴰ.cases_cons m)

-- an entry more at the end of a stretch
slice_push : (l : List ℕ) (low n x : ℕ) → low ≤ n → n < length l → slice low (n + 1) (set l n x) ≡ slice low n l ++ x ∷ []
slice_push l low n x h b =
    ap (λ (k : ℕ). drop low (take k (set l n x))) (add-one n)
    ∙ ap (drop low) (take-suc-set l n x b)
    ∙ drop-append-le low (take n l) (x ∷ []) (rw (length-take-le n l (omega arith)) h)

-- ---- `is_first`

-- ---- marks

-- what holds of each cell once one is set: it holds of the new one, and held of the others
each_set : (P : ℕ → ℕ → Type 0) (l : List ℕ) (p x : ℕ) → p < length l → P p x → ((v : ℕ) → P v (get_or l v 0)) → (v : ℕ) → P v (get_or (set l p x) v 0)
each_set P l p x h here there v =
    ⊎_elim
    (λ e. subst (λ (i : ℕ). P i (get_or (set l p x) i 0)) (sym e) (subst (P p) (sym (get_or-set_same l p x 0 h)) here))
    (λ ne. subst (P v) (sym (get_or-set_other l p v x 0 ne)) (there v))
    (same_or_not v p)

-- one more is marked
mark_more : {barriers₀ barriers met : List ℕ} (p : ℕ) → p < persons → get_or barriers p 0 < heights → Marked barriers₀ barriers met → Marked barriers₀ (set barriers p (get_or barriers p 0 + heights)) (met ++ p ∷ [])
mark_more {barriers₀} {barriers} {met} p h low m =
    let x = get_or barriers p 0 + heights in
    let b : p < length barriers = omega (arith, m.wide) in
    record {
      wide = length-set barriers p x ∙ m.wide;
      under = each_set (λ v n. n % heights ≡ get_or barriers₀ v 0 % heights) barriers p x b (omega (arith, m.under p)) m.under;
      told = each_set (λ v n. heights ≤ n → (v ∈ met ++ p ∷ []) ⊎ (heights ≤ get_or barriers₀ v 0)) barriers p x b (λ t. inl (Memᴰ.append_right met (Memᴰ.head refl))) (λ v t. ⊎_elim (λ q. inl (Memᴰ.append_left (p ∷ []) q)) inr (m.told v t));
    }

-- the first met is marked no more
mark_less : {barriers₀ barriers met : List ℕ} (p : ℕ) → p < persons → Marked barriers₀ barriers (p ∷ met) → Marked barriers₀ (set barriers p (get_or barriers p 0 % heights)) met
mark_less {barriers₀} {barriers} {met} p h m =
    let x = get_or barriers p 0 % heights in
    let b : p < length barriers = omega (arith, m.wide) in
    record {
      wide = length-set barriers p x ∙ m.wide;
      under = each_set (λ v n. n % heights ≡ get_or barriers₀ v 0 % heights) barriers p x b (omega (arith, m.under p)) m.under;
      told = λ v t. ⊎_elim
          (λ e. absurd (let z : heights ≤ x = subst (λ (n : ℕ). heights ≤ n) (ap (λ (i : ℕ). get_or (set barriers p x) i 0) e ∙ get_or-set_same barriers p x 0 b) t in omega arith))
          (λ ne. ⊎_elim (λ q. ⊎_elim (λ e. absurd (ne e)) inl (Memᴰ.cases_cons q)) inr (m.told v (subst (λ (n : ℕ). heights ≤ n) (get_or-set_other barriers p v x 0 ne) t)))
          (same_or_not v p);
    }

-- nobody is marked: whoever had a height has it again
mark_none : {barriers₀ barriers : List ℕ} → Marked barriers₀ barriers [] → (v : ℕ) → get_or barriers₀ v 0 < heights → get_or barriers v 0 ≡ get_or barriers₀ v 0
mark_none {barriers₀} {barriers} m v h =
    ⊎_elim
    (λ l. omega (arith, m.under v))
    (λ l. absurd (⊎_elim (λ q. Memᴰ.not-nil q) (λ q. omega arith) (m.told v l)))
    (lt_or_le (get_or barriers v 0) heights)

-- ---- `keep_firsts`

-- the loop's invariant: what is kept and what is still to come lead back to the same barriers
pub record Keeping (barriers₀ trail₀ : List ℕ) (low high : ℕ) (barriers trail : List ℕ) (n i : ℕ) : Type 0 where
  pub asked : Undoable barriers₀ trail₀ low high
  pub marked : Marked barriers₀ barriers (persons_in (slice low n trail))
  pub above : low ≤ n
  pub behind : n ≤ i
  pub below : i ≤ high
  pub long : length trail ≡ length trail₀
  pub keeps : take low trail ≡ take low trail₀
  pub ahead : (j : ℕ) → i ≤ j → get_or trail j 0 ≡ get_or trail₀ j 0
  pub entries : Entries trail low n
  pub right : Flat barriers₀ → (bs : List ℕ) → unwind (slice low n trail ++ slice i high trail₀) bs ≡ unwind (slice low high trail₀) bs

module _ {barriers₀ trail₀ : List ℕ} {low high : ℕ} {barriers trail : List ℕ} {n i : ℕ} (k : Keeping barriers₀ trail₀ low high barriers trail n i) where
  within : i < high → i < length trail
  within lt = omega (arith, k.long, k.asked.fits)

  an_entry : i < high → get_or trail i 0 < persons * heights
  an_entry lt = rw (k.ahead i (omega arith)) (k.asked.entries.each i (omega (arith, k.above, k.behind)) lt)

  -- the entry that comes next
  coming : i < high → slice i high trail₀ ≡ get_or trail i 0 ∷ slice (i + 1) high trail₀
  coming lt = slice-cons i high trail₀ 0 lt k.asked.fits ∙ ap (λ (x : ℕ). x ∷ slice (suc i) high trail₀) (sym (k.ahead i (omega arith))) ∙ ap (λ (j : ℕ). get_or trail i 0 ∷ slice j high trail₀) (sym (add-one i))

  -- it is its person's first
  pub keep-first : {barriers' : List ℕ} {b : Bool} → i < high → First barriers barriers' (get_or trail i 0) b → b ≡ true → Keeping barriers₀ trail₀ low high barriers' (set trail n (get_or trail i 0)) (n + 1) (i + 1)
  keep-first {barriers'} lt f t =
      let e = get_or trail i 0 in
      let room : n < length trail = omega (arith, within lt, k.behind) in
      let more = slice_push trail low n e k.above room in
      record {
        asked = k.asked;
        marked = rw ((f.first t).1, more, map-append) (mark_more (e / heights) (omega (arith, an_entry lt)) (f.first t).0 k.marked);
        above = omega (arith, k.above);
        behind = omega (arith, k.behind);
        below = omega arith;
        long = length-set trail n e ∙ k.long;
        keeps = take-set-le low trail n e k.above ∙ k.keeps;
        ahead = λ j h. get_or-set_other trail n j e 0 (λ q. omega (arith, k.behind)) ∙ k.ahead j (omega arith);
        entries = record { each = λ j l h. ⊎_elim (λ q. subst (λ (x : ℕ). x < persons * heights) (sym (ap (λ (m : ℕ). get_or (set trail n e) m 0) q ∙ get_or-set_same trail n e 0 room)) (an_entry lt)) (λ q. rw (get_or-set_other trail n j e 0 q) (k.entries.each j l (omega arith))) (same_or_not j n) };
        right = λ flat bs. ap (λ (l : List ℕ). unwind l bs) (ap (λ (l : List ℕ). l ++ slice (i + 1) high trail₀) more ∙ append_snoc (slice low n trail) e (slice (i + 1) high trail₀) ∙ ap (λ (l : List ℕ). slice low n trail ++ l) (sym (coming lt))) ∙ k.right flat bs;
      }

  -- its person has one already
  pub keep_again : {barriers' : List ℕ} {b : Bool} → i < high → First barriers barriers' (get_or trail i 0) b → b ≡ false → Keeping barriers₀ trail₀ low high barriers' trail n (i + 1)
  unfolding unwind
  keep_again {barriers'} lt f t =
      let e = get_or trail i 0 in
      let es = slice low n trail in
      let rest = slice (i + 1) high trail₀ in
      let met : Flat barriers₀ → e / heights ∈ persons_in es = λ flat. ⊎_elim (λ q. q) (λ q. absurd (omega (arith, flat (e / heights)))) (k.marked.told (e / heights) (f.again t).0) in
      record {
        asked = k.asked;
        marked = rw (f.again t).1 k.marked;
        above = k.above;
        behind = omega (arith, k.behind);
        below = omega arith;
        long = k.long;
        keeps = k.keeps;
        ahead = λ j h. k.ahead j (omega arith);
        entries = k.entries;
        right = λ flat bs.
            unwind-append es rest bs
            ∙ sym (again_same es (unwind rest bs) (e / heights) (e % heights) (met flat))
            ∙ sym (unwind-append es (e ∷ rest) bs)
            ∙ ap (λ (l : List ℕ). unwind (es ++ l) bs) (sym (coming lt))
            ∙ k.right flat bs;
      }

-- ---- `unmark_all`

-- the loop's invariant: whoever is still marked has an entry still to come
pub record Unmarking (barriers₀ es barriers : List ℕ) (i : ℕ) : Type 0 where
  pub wide : length barriers ≡ persons
  pub people : (j : ℕ) → j < length es → get_or es j 0 < persons * heights
  pub marked : {plain : List ℕ} → Marked plain barriers₀ (persons_in es) → Marked plain barriers (persons_in (drop i es))

module _ {barriers₀ es barriers : List ℕ} {i : ℕ} (k : Unmarking barriers₀ es barriers i) where
  pub unmark_turn : {barriers' : List ℕ} → i < length es → barriers' ≡ set barriers (get_or es i 0 / heights) (get_or barriers (get_or es i 0 / heights) 0 % heights) → Unmarking barriers₀ es barriers' (i + 1)
  unmark_turn {barriers'} lt e =
      let p = get_or es i 0 / heights in
      let here : p < persons = omega (arith, k.people i lt) in
      record {
        wide = ap length e ∙ length-set barriers p _ ∙ k.wide;
        people = k.people;
        marked = λ m. rw (e, add-one i) (mark_less p here (rw (drop-cons es i 0 lt) at (k.marked m)));
      }

  pub unmark_end : {trail : List ℕ} {low n : ℕ} → Undoable barriers₀ trail low n → es ≡ take (n - low) (drop low trail) → length es ≤ i → Unmarked barriers₀ barriers trail low n
  unmark_end {trail} {low} {n} u e h =
      let all : es ≡ slice low n trail = e ∙ part_slice low n trail u.rise in
      record { plain = λ {barriers₀ = plain} m. rw (drop_of_length-le es h) at (k.marked {plain = plain} (rw all m)) }

-- ---- `squeeze`

pub squeeze_done : {barriers barriers' barriers'' trail trail' : List ℕ} {low high n : ℕ} → FirstsKept barriers barriers' trail trail' low high n → Unmarked barriers' barriers'' trail' low n → Squeezed barriers barriers'' trail trail' low high n
squeeze_done k u = let m = u.plain k.marked in record { wide = m.wide; same = mark_none m; shorter = k.shorter }
