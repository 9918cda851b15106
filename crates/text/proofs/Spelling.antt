-- Decimal digits: a number is what stands before its last digit, and its last digit.
use mathlib.Core.Path.{◌≡◌, refl, ap}
use mathlib.Core.List.{List, [], ◌∷◌, ◌++◌}
use mathlib.Core.Bool.{Bool, true, false, cond}
use Prim.Native.Nat.{ℕ, zero, suc, ◌+◌, ◌*◌, ◌/◌, ◌%◌, ◌^◌, ◌≤◌, ◌<◌}
use native.Mathlib.Omega.{arith}
use native.Mathlib.Nat.{pow-suc}
use lib.Dec.{ltb}
use borrow.Author.Tests.{lt-ltb, le-ltb, ltb-true, ltb-false}
use lib.ListN.{length, set, length-append}
use Rattle.text.specs.Decimal.{digits_within, decimal}
use Rattle.text.specs.Printed.{Printed}
use Rattle.text.proofs.Printing.{behind, one_byte, two_bytes, three_bytes, printed-length}

-- more than enough is enough
enough : (f h n : ℕ) → n < f → n < h → digits_within f n ≡ digits_within h n
unfolding digits_within
enough zero h n a b = absurd (omega arith)
enough (suc f) zero n a b = absurd (omega arith)
enough (suc f) (suc h) n a b = go (ltb n 10) refl (λ big. enough f h (n / 10) (omega arith) (omega arith))
  where
    go : (t : Bool) → ltb n 10 ≡ t → (10 ≤ n → digits_within f (n / 10) ≡ digits_within h (n / 10)) → cond t ((48 + n) ∷ []) (digits_within f (n / 10) ++ (48 + n % 10) ∷ []) ≡ cond t ((48 + n) ∷ []) (digits_within h (n / 10) ++ (48 + n % 10) ∷ [])
    go true e on = refl
    go false e on = ap (λ (l : List ℕ). l ++ (48 + n % 10) ∷ []) (on (ltb-false n 10 e))

pub decimal_one : (n : ℕ) → n < 10 → decimal n ≡ (48 + n) ∷ []
unfolding decimal digits_within
decimal_one n h = rw (lt-ltb n 10 h)

pub decimal_more : (n : ℕ) → 10 ≤ n → decimal n ≡ decimal (n / 10) ++ (48 + n % 10) ∷ []
unfolding decimal digits_within
decimal_more n h = rw (le-ltb n 10 h) (ap (λ (l : List ℕ). l ++ (48 + n % 10) ∷ []) (enough n (suc (n / 10)) (n / 10) (omega arith) (omega arith)))

pub decimal_two : (n : ℕ) → 10 ≤ n → n < 100 → decimal n ≡ (48 + n / 10) ∷ (48 + n % 10) ∷ []
decimal_two n h l = rw (decimal_more n h, decimal_one (n / 10) (omega arith))

pub decimal_three : (n : ℕ) → 100 ≤ n → n < 1000 → decimal n ≡ (48 + n / 100) ∷ (48 + n / 10 % 10) ∷ (48 + n % 10) ∷ []
decimal_three n h l =
    let e : n / 10 / 10 ≡ n / 100 = omega arith in
    rw (decimal_more n (omega arith), decimal_two (n / 10) (omega arith) (omega arith), e)

-- a number below a power of ten has no more digits than the power says
pub decimal-length : (k n : ℕ) → n < 10 ^ suc k → length (decimal n) ≤ suc k
decimal-length zero n h = let e = ap length (decimal_one n h) in omega (arith, e)
decimal-length (suc k) n h = go (ltb n 10) refl (decimal-length k (n / 10) (omega (arith, pow-suc 10 (suc k))))
  where
    go : (t : Bool) → ltb n 10 ≡ t → length (decimal (n / 10)) ≤ suc k → length (decimal n) ≤ suc (suc k)
    go true e on = let one = ap length (decimal_one n (ltb-true n 10 e)) in omega (arith, one)
    go false e on = let more = ap length (decimal_more n (ltb-false n 10 e)) in omega (arith, more, length-append (decimal (n / 10)) ((48 + n % 10) ∷ []))

-- a 32-bit number has at most ten
pub number_length : (n : ℕ) → n < 2 ^ 32 → length (decimal n) ≤ 10
number_length n h = decimal-length 9 n (omega arith)

-- behind a digit
pub worth_more : (d w : ℕ) → d < 10 → 0 < w → decimal (d + 10 * w) ≡ decimal w ++ (48 + d) ∷ []
worth_more d w h some =
    let q : (d + 10 * w) / 10 ≡ w = omega arith in
    let r : (d + 10 * w) % 10 ≡ d = omega arith in
    rw (decimal_more (d + 10 * w) (omega arith), q, r)

-- a number of one, two and three digits, and of one more than another
module _ {out : List ℕ} {at n : ℕ} where
  pub one_digit : {a : ℕ} → n < 10 → a ≡ 48 + n → Printed out at (decimal n) (set out at a) (at + 1)
  one_digit h ea = rw (decimal_one n h, ea) one_byte

  pub two_digits : {a b : ℕ} → 10 ≤ n → n < 100 → a ≡ 48 + n / 10 → b ≡ 48 + n % 10 → Printed out at (decimal n) (set (set out at a) (at + 1) b) (at + 2)
  two_digits h l ea eb = rw (decimal_two n h l, ea, eb) two_bytes

  pub three_digits : {a b d : ℕ} → 100 ≤ n → n < 1000 → a ≡ 48 + n / 100 → b ≡ 48 + n / 10 % 10 → d ≡ 48 + n % 10 → Printed out at (decimal n) (set (set (set out at a) (at + 1) b) (at + 2) d) (at + 3)
  three_digits h l ea eb ed = rw (decimal_three n h l, ea, eb, ed) three_bytes

  pub last_digit : {out' : List ℕ} {last a : ℕ} → 10 ≤ n → Printed out at (decimal (n / 10)) out' last → a ≡ 48 + n % 10 → Printed out at (decimal n) (set out' last a) (last + 1)
  last_digit h p ea = rw (decimal_more n h, ea) (behind p one_byte)

  pub last_room : {out' : List ℕ} {last : ℕ} → 10 ≤ n → at + length (decimal n) ≤ length out → Printed out at (decimal (n / 10)) out' last → last < length out'
  last_room {out'} {last} h fits p =
      let more = ap length (decimal_more n h) in
      omega (arith, more, length-append (decimal (n / 10)) ((48 + n % 10) ∷ []), printed-length p, p.place)

pub rest_room : (n : ℕ) → 10 ≤ n → length (decimal (n / 10)) < length (decimal n)
rest_room n h = let more = ap length (decimal_more n h) in omega (arith, more, length-append (decimal (n / 10)) ((48 + n % 10) ∷ []))

-- how many digits there are
pub one_long : (n : ℕ) → n < 10 → length (decimal n) ≡ 1
one_long n h = ap length (decimal_one n h)

pub two_long : (n : ℕ) → 10 ≤ n → n < 100 → length (decimal n) ≡ 2
two_long n h l = ap length (decimal_two n h l)

pub three_long : (n : ℕ) → 100 ≤ n → n < 1000 → length (decimal n) ≡ 3
three_long n h l = ap length (decimal_three n h l)
