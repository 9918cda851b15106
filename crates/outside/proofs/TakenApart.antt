-- What was put into a number is read off it again, and a refusal is told by 2^63.
use mathlib.Core.Path.{◌≡◌}
use mathlib.Core.Bool.{Bool, true, false}
use Prim.Native.Nat.{ℕ, ◌+◌, ◌*◌, ◌/◌, ◌%◌, ◌^◌, ◌<◌}
use native.Mathlib.Omega.{arith}
use borrow.Author.Tests.{eq-eqb, ne_eqb}
use Rattle.outside.specs.Encoded.{refusal_number, ended_number}
use Rattle.outside.specs.TakenApart.{refusal_in, place_in, count_in, ended_in, persons_in, links_in, feeds_in}

pub refusal_apart : (number place : ℕ) → number < 2 ^ 31 → place < 2 ^ 32 → (refusal_in (refusal_number number place) ≡ number) × (place_in (refusal_number number place) ≡ place)
refusal_apart number place h i = (omega arith, omega arith)

pub listed_apart : (count : ℕ) (ended : Bool) → count < 2 ^ 62 → (count_in (count + ended_number ended * 2 ^ 62) ≡ count) × (ended_in (count + ended_number ended * 2 ^ 62) ≡ ended)
listed_apart count true h = (omega arith, eq-eqb ((count + 1 * 2 ^ 62) / 2 ^ 62 % 2) 1 (omega arith))
listed_apart count false h = (omega arith, ne_eqb ((count + 0 * 2 ^ 62) / 2 ^ 62 % 2) 1 (λ e. omega arith))

pub counts_apart : (n m f : ℕ) → n < 2 ^ 16 → m < 2 ^ 16
    → (persons_in (n + m * 2 ^ 16 + f * 2 ^ 32) ≡ n) × (links_in (n + m * 2 ^ 16 + f * 2 ^ 32) ≡ m) × (feeds_in (n + m * 2 ^ 16 + f * 2 ^ 32) ≡ f)
counts_apart n m f h i = (omega arith, omega arith, omega arith)
