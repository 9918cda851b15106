-- Numbers as they are printed. "Numbers are decimal" Definitions only.
use Rattle.std.specs.Prelude.{◌≡◌, List, [], ◌∷◌, ◌++◌, cond, ℕ, zero, suc, ◌+◌, ◌*◌, ◌/◌, ◌%◌, ◌<◌, length, get_or, ltb}

-- the digits of n as bytes, the first one first and no zero in front: what stands before the last digit, and the last digit.
-- There are never more digits than n + 1.
unfoldable pub digits_within : ℕ → ℕ → List ℕ
digits_within zero n = []
digits_within (suc most) n = cond (ltb n 10) ((48 + n) ∷ []) (digits_within most (n / 10) ++ (48 + n % 10) ∷ [])

unfoldable pub decimal : ℕ → List ℕ
decimal n = digits_within (suc n) n

-- a count that is kept in digits, the last digit first: what it is worth
unfoldable pub worth : List ℕ → ℕ
worth [] = 0
worth (d ∷ ds) = d + 10 * worth ds

-- a count has forty digits
abbrev pub digit_count : ℕ
digit_count = 40

pub record Digits (counted : List ℕ) : Type 0 where
  pub long : length counted ≡ digit_count
  pub each : (i : ℕ) → i < digit_count → get_or counted i 0 < 10
