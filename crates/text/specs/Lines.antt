-- The lines that the program prints. "every line ends with one LF." Definitions only.
use Rattle.std.specs.Prelude.{List, [], ◌∷◌, ◌++◌, ℕ, zero, suc, ◌+◌, ◌*◌, ◌≤◌, ◌<◌, length, get_or, drop}
use Rattle.ways.specs.Chain.{hops}
use Rattle.ways.specs.Records.{chain_of}
use Rattle.ways.specs.Sizes.{record_size, most_hops}
use Rattle.text.specs.Decimal.{decimal}

-- each person with a space in front: behind a colon these are "a space, the persons with single spaces between"
unfoldable pub spaced : List ℕ → List ℕ
spaced [] = []
spaced (p ∷ c) = 32 ∷ (decimal p ++ spaced c)

-- "Per chain it prints the hops, a colon, a space, the persons with single spaces between"
unfoldable pub chain_line : List ℕ → List ℕ
chain_line c = decimal (hops c) ++ 58 ∷ (spaced c ++ 10 ∷ [])

-- one line a chain
unfoldable pub chain_lines : List (List ℕ) → List ℕ
chain_lines [] = []
chain_lines (c ∷ L) = chain_line c ++ chain_lines L

-- "then `end`, a space and the number of chains"
unfoldable pub end_line : ℕ → List ℕ
end_line n = 101 ∷ 110 ∷ 100 ∷ 32 ∷ (decimal n ++ 10 ∷ [])

-- "A refusal prints only `refused R at P`."
unfoldable pub refusal_line : ℕ → ℕ → List ℕ
refusal_line number place =
    114 ∷ 101 ∷ 102 ∷ 117 ∷ 115 ∷ 101 ∷ 100 ∷ 32 ∷ (decimal number ++ 32 ∷ 97 ∷ 116 ∷ 32 ∷ (decimal place ++ 10 ∷ []))

-- the chain in the record of a number
abbrev pub chain_at : List ℕ → ℕ → List ℕ
chain_at cells number = chain_of (drop (number * record_size) cells)

-- so many chains, from the record of a number on
unfoldable pub chains_at : List ℕ → ℕ → ℕ → List (List ℕ)
chains_at cells number zero = []
chains_at cells number (suc count) = chain_at cells number ∷ chains_at cells (suc number) count

-- the record of a number lies in the cells, and has at most so many hops
pub record RecordAt (cells : List ℕ) (number : ℕ) : Type 0 where
  pub whole : number * record_size + record_size ≤ length cells
  pub few : get_or cells (number * record_size) 0 ≤ most_hops

-- so do so many records
abbrev pub Records : List ℕ → ℕ → Type 0
Records cells count = (number : ℕ) → number < count → RecordAt cells number
