-- A number taken apart again, by the shifts and masks of include/kin.h. Definitions only.
use Rattle.std.specs.Prelude.{Bool, ℕ, ◌/◌, ◌%◌, ◌^◌, eqb}

-- a refusal, which is 2^63 or more: its number and its place
abbrev pub refusal_in : ℕ → ℕ
refusal_in number = number / 2 ^ 32 % 2 ^ 31

abbrev pub place_in : ℕ → ℕ
place_in number = number % 2 ^ 32

-- a listing: how many chains, and whether none follows
abbrev pub count_in : ℕ → ℕ
count_in number = number % 2 ^ 62

abbrev pub ended_in : ℕ → Bool
ended_in number = eqb (number / 2 ^ 62 % 2) 1

-- the check of a file that passed: its persons, links and feeds
abbrev pub persons_in : ℕ → ℕ
persons_in number = number % 2 ^ 16

abbrev pub links_in : ℕ → ℕ
links_in number = number % 2 ^ 32 / 2 ^ 16

abbrev pub feeds_in : ℕ → ℕ
feeds_in number = number / 2 ^ 32
