-- A count in decimal digits, the last digit first: counting on, and the digits as text.
use mathlib.Core.Path.{◌≡◌, refl, sym, ap, subst, ◌∙◌}
use mathlib.Core.Logic.{◌⊎◌, inl, inr, ⊎_elim}
use mathlib.Core.List.{List, [], ◌∷◌, ◌++◌, append_assoc, append-nil}
use Prim.Native.Nat.{ℕ, zero, suc, ◌+◌, ◌-◌, ◌*◌, ◌/◌, ◌%◌, ◌^◌, ◌≤◌, ◌<◌}
use native.Mathlib.Omega.{arith}
use native.Mathlib.Nat.{pow-suc, zero-add, not-le_of_lt, eq-zero-or-pos}
use native.Mathlib.Numerals.{add-one}
use lib.ListN.{length, get_or, take, drop, set, replicate, length-append, length-set, length-replicate, get_or-append, get_or-replicate}
use lib.Seq.{take_all, take-suc-set, get_or-append_seam, drop-set-lt, drop-cons, drop-length, get_or-set_same, get_or-set_other}
use Rattle.std.proofs.Common.{Option, Some, None}
use Rattle.std.specs.Option.{unwrap_or}
use Rattle.ways.proofs.Cases.{same_or_not}
use Rattle.text.specs.Decimal.{decimal, worth, digit_count, Digits}
use Rattle.text.specs.Printed.{Printed}
use Rattle.text.proofs.Printing.{Printing, byte, done}
use Rattle.text.proofs.Spelling.{decimal_one, worth_more}

-- what digits are worth with so much above them
unfoldable pub above : List ℕ → ℕ → ℕ
above [] w = w
above (d ∷ ds) w = d + 10 * above ds w

above_none : (ds : List ℕ) → above ds 0 ≡ worth ds
unfolding above worth
above_none [] = refl
above_none (d ∷ ds) = rw (above_none ds)

above_one : (ds : List ℕ) (d w : ℕ) → above (ds ++ d ∷ []) w ≡ above ds (d + 10 * w)
unfolding above
above_one [] d w = refl
above_one (e ∷ ds) d w = rw (above_one ds d w)

above_big : (ds : List ℕ) (w : ℕ) → 0 < w → 10 ^ length ds ≤ above ds w
unfolding above
above_big [] w h = omega arith
above_big (d ∷ ds) w h = omega (arith, pow-suc 10 (length ds), above_big ds w h)

worth_at : (ds : List ℕ) (i : ℕ) → i < length ds → worth (drop i ds) ≡ get_or ds i 0 + 10 * worth (drop (i + 1) ds)
unfolding worth
worth_at ds i h = rw (add-one, drop-cons ds i 0)

digits_set : (ds : List ℕ) (i d : ℕ) → Digits ds → d < 10 → Digits (set ds i d)
digits_set ds i d all h = record { long = length-set ds i d ∙ all.long; each = λ j l. go j l (same_or_not j i) }
  where
    go : (j : ℕ) → j < digit_count → (j ≡ i) ⊎ (j ≡ i → ⊥) → get_or (set ds i d) j 0 < 10
    go j l (inl e) = rw (e, get_or-set_same ds i d 0 (omega (arith, all.long))) h
    go j l (inr n) = rw (get_or-set_other ds i j d 0 n) (all.each j l)

-- ---- counting on: the digits below i are done, and the carry still goes to the others
pub record CountingOn (counted₀ : List ℕ) (more : ℕ) (counted : List ℕ) (carry i : ℕ) : Type 0 where
  pub digits : Digits counted
  pub within : i ≤ digit_count
  pub small : carry < 2 ^ 64
  pub right : above (take i counted) (worth (drop i counted) + carry) ≡ worth counted₀ + more

pub on_starts : {counted : List ℕ} {more : ℕ} → Digits counted → more < 2 ^ 64 → CountingOn counted more counted more 0
unfolding above
on_starts d f = record { digits = d; within = omega arith; small = f; right = refl }

module _ {counted₀ : List ℕ} {more : ℕ} {counted : List ℕ} {carry i : ℕ} (k : CountingOn counted₀ more counted carry i) where
  pub on_digit : i < digit_count → get_or counted i 0 < 10
  on_digit h = k.digits.each i h

  pub on_turn : i < digit_count → CountingOn counted₀ more (set counted i ((get_or counted i 0 + carry % 10) % 10)) (carry / 10 + (get_or counted i 0 + carry % 10) / 10) (i + 1)
  on_turn h =
      let d = get_or counted i 0 in
      let sum = d + carry % 10 in
      let inside : i < length counted = omega (arith, k.digits.long) in
      let w = worth (drop (suc i) counted) in
      let old : worth (drop i counted) ≡ d + 10 * w = rw add-one at (worth_at counted i inside) in
      let same : sum % 10 + 10 * (w + (carry / 10 + sum / 10)) ≡ worth (drop i counted) + carry = omega (arith, old) in
      let still : Digits (set counted i (sum % 10)) = digits_set counted i (sum % 10) k.digits (omega arith) in
      record {
        digits = still;
        within = omega arith;
        small = omega (arith, k.small, on_digit h);
        right = rw (add-one, take-suc-set counted i (sum % 10) inside, drop-set-lt (suc i) counted i (sum % 10) (omega arith), above_one (take i counted) (sum % 10) (w + (carry / 10 + sum / 10)), same) k.right;
      }

  pub on_ends : digit_count ≤ i → worth counted₀ + more < 10 ^ digit_count → worth counted ≡ worth counted₀ + more
  unfolding worth
  on_ends h small =
      let e : i ≡ length counted = omega (arith, k.digits.long, k.within) in
      let all : above counted carry ≡ worth counted₀ + more = last e k.right in
      let none : carry ≡ 0 = ⊎_elim (λ z. z) (λ some. absurd (not-le_of_lt small (rw k.digits.long at (rw all at (above_big counted carry some))))) (eq-zero-or-pos carry) in
      sym (above_none counted) ∙ ap (above counted) (sym none) ∙ all
    where
      last : i ≡ length counted → above (take i counted) (worth (drop i counted) + carry) ≡ worth counted₀ + more → above counted carry ≡ worth counted₀ + more
      last e r = rw (e, take_all (length counted) counted (omega arith), drop-length counted, zero-add) at r

-- ---- the first digit that is no zero
-- zeros from a place on are worth nothing
zeros_worth : (counted : List ℕ) (n i : ℕ) → i + n ≡ length counted → ((k : ℕ) → i ≤ k → k < length counted → get_or counted k 0 ≡ 0) → worth (drop i counted) ≡ 0
unfolding worth
zeros_worth counted zero i e none = let all : i ≡ length counted = omega arith in rw (all, drop-length counted)
zeros_worth counted (suc n) i e none =
    let rest = zeros_worth counted n (i + 1) (omega arith) (λ k h l. none k (omega arith) l) in
    omega (arith, worth_at counted i (omega arith), none i (omega arith) (omega arith), rest)

-- the place that was found, or that of the last digit where there are none but zeros
pub seek_first : {counted : List ℕ} (found : Option ℕ) → Digits counted
    → ((i : ℕ) → found ≡ Some i → i < length counted)
    → ((i : ℕ) → found ≡ Some i → get_or counted i 0 ≡ 0 → ⊥)
    → ((i : ℕ) → found ≡ Some i → (k : ℕ) → i < k → k < length counted → get_or counted k 0 ≡ 0)
    → (found ≡ None → (k : ℕ) → k < length counted → get_or counted k 0 ≡ 0)
    → (unwrap_or found 0 < digit_count) × (worth (drop (unwrap_or found 0 + 1) counted) ≡ 0) × ((unwrap_or found 0 ≡ 0) ⊎ (0 < get_or counted (unwrap_or found 0) 0))
seek_first {counted} (Some i) all inside some above_zeros zeros = (
  omega (arith, all.long, inside i refl),
  zeros_worth counted (length counted - (i + 1)) (i + 1) (omega (arith, inside i refl)) (λ k l. above_zeros i refl k (omega arith)),
  ⊎_elim (λ z. absurd (some i refl z)) (λ up. inr up) (eq-zero-or-pos (get_or counted i 0)),
)
seek_first {counted} None all inside some above_zeros zeros =
    (omega arith, zeros_worth counted (length counted - 1) 1 (omega (arith, all.long)) (λ k l. zeros refl k), inl refl)

-- ---- the digits below i as text, the first one first
unfoldable pub down : ℕ → List ℕ → List ℕ
down zero counted = []
down (suc i) counted = (48 + get_or counted i 0) ∷ down i counted

module _ (counted : List ℕ) (all : Digits counted) (r : ℕ) (within : r < digit_count) (zeros : worth (drop (r + 1) counted) ≡ 0) (first : (r ≡ 0) ⊎ (0 < get_or counted r 0)) where
  inside : (j : ℕ) → j ≤ r → j < length counted
  inside j h = omega (arith, all.long)

  -- what stands above a place is worth something, unless it is the first digit
  worth_some : (n j : ℕ) → j + n ≡ r → 0 < r → 0 < worth (drop j counted)
  worth_some zero j e up = let at : j ≡ r = omega arith in rw at (⊎_elim (λ z. absurd (omega arith)) (λ some. omega (arith, worth_at counted r (inside r (omega arith)))) first)
  worth_some (suc n) j e up = omega (arith, worth_at counted j (inside j (omega arith)), worth_some n (j + 1) (omega arith) up)

  down_from : (n j : ℕ) → j + n ≡ r → decimal (worth (drop j counted)) ++ down j counted ≡ down (suc r) counted
  unfolding down
  down_from zero j e =
      let at : j ≡ r = omega arith in
      let w : worth (drop r counted) ≡ get_or counted r 0 = omega (arith, worth_at counted r (inside r (omega arith))) in
      rw (at, w, decimal_one (get_or counted r 0) (all.each r within))
  down_from (suc n) j e =
      let one : j + 1 ≡ suc j = omega arith in
      let w : worth (drop j counted) ≡ get_or counted j 0 + 10 * worth (drop (suc j) counted) = rw one at (worth_at counted j (inside j (omega arith))) in
      let some : 0 < worth (drop (suc j) counted) = worth_some n (suc j) (omega arith) (omega arith) in
      rw (w, worth_more (get_or counted j 0) (worth (drop (suc j) counted)) (all.each j (omega arith)) some, append_assoc) (down_from n (suc j) (omega arith))

  pub down_all : decimal (worth counted) ≡ down (r + 1) counted
  unfolding down
  down_all = rw add-one (sym (append-nil (decimal (worth counted))) ∙ down_from r 0 (omega arith))

-- the digits in `rest`, which are the lowest of the count, are still to come, the last of them first
pub record Counting (counted out₀ : List ℕ) (at first : ℕ) (rest out : List ℕ) (next : ℕ) : Type 0 where
  pub lowest : (i : ℕ) → i < length rest → get_or rest i 0 ≡ get_or counted i 0
  pub within : length rest ≤ first
  pub room : next + length rest ≡ at + first
  pub printing : Printing out₀ at (down first counted) out next (down (length rest) counted)

module _ {counted out₀ : List ℕ} {at first : ℕ} {rest out : List ℕ} {next : ℕ} (k : Counting counted out₀ at first rest out next) where
  module _ (rest' : List ℕ) (value : ℕ) (taken : rest ≡ rest' ++ value ∷ []) where
    one_less : length rest ≡ suc (length rest')
    one_less = omega (arith, ap length taken, length-append rest' (value ∷ []))

    count_value : value ≡ get_or counted (length rest') 0
    count_value = sym (get_or-append_seam rest' value [] 0) ∙ ap (λ (l : List ℕ). get_or l (length rest') 0) (sym taken) ∙ k.lowest (length rest') (omega (arith, one_less))

    pub count_turn : {a : ℕ} → a ≡ 48 + value → Counting counted out₀ at first rest' (set out next a) (next + 1)
    unfolding down
    count_turn {a} ea = record {
      lowest = λ i below. sym (get_or-append rest' (value ∷ []) 0 i below) ∙ ap (λ (l : List ℕ). get_or l i 0) (sym taken) ∙ k.lowest i (omega (arith, one_less));
      within = omega (arith, k.within, one_less);
      room = omega (arith, k.room, one_less);
      printing = rw (ea, count_value) (byte (subst (λ (n : ℕ). Printing out₀ at (down first counted) out next (down n counted)) one_less k.printing));
    }

  pub count_ends : length rest ≡ 0 → Printed out₀ at (down first counted) out next
  unfolding down
  count_ends e = done (rw e at k.printing)

-- ---- nothing counted yet
pub none_counted : Digits (replicate digit_count 0)
none_counted = record { long = length-replicate {A = ℕ} digit_count 0; each = λ i h. rw (get_or-replicate {A = ℕ} digit_count i 0 0 h) (omega arith) }

pub none_worth : worth (replicate digit_count 0) ≡ 0
unfolding worth
none_worth = refl
