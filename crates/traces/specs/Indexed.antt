-- The right halves by their index, as it is lent with them: definitions, and that there is one way at most in which they are indexed.
use Rattle.std.specs.Prelude.{◌≡◌, ℕ, List, suc, ◌+◌, ◌-◌, ◌*◌, ◌≤◌, ◌<◌, length, get_or}
use denote.Struct.Props as known
use Rattle.ways.specs.Sizes.{record_size}
use Rattle.compact.specs.Compact.{persons}

-- where the index has those of so many hops, one or more, that start at a person: a row for each number of hops, and the end of the row
abbrev pub place_of : ℕ → ℕ → ℕ
place_of rest p = (rest - 1) * suc persons + p

-- the index of the right halves of so many hops: what it points at are records of persons
pub record Indexed (halves index : List ℕ) (rest : ℕ) : Type 0 where
  pub some : 1 ≤ rest
  pub within : place_of rest persons < length index
  pub there : (p : ℕ) → p < persons → get_or index (place_of rest p + 1) 0 * record_size ≤ length halves
  pub people : (p : ℕ) → p < persons → (c : ℕ) → c < get_or index (place_of rest p + 1) 0 * record_size → get_or halves c 0 < persons

-- there is one way at most in which they are indexed, where they are asked for at all
pub Indexed_prop : (halves index : List ℕ) (rest : ℕ) → IsProp ((rest ≡ 0 → ⊥) → Indexed halves index rest)
Indexed_prop halves index rest = Prim.hlevel (known.props)
