-- Listing in portions: each starts after the last chain that was handed over. Definitions only.
-- "It writes the first r chains after the bookmark, or all if fewer, from cell 0, and answers how many, and whether the listing has ended."
use Rattle.std.specs.Prelude.{Bool, cond, List, [], ◌∷◌, ◌++◌, ℕ, ◌+◌, length, take, leb}
use Rattle.ways.specs.Order.{before}

-- the chains of L that stand after the bookmark b in dictionary order.
-- The bookmark [] stands before every chain: it is the fresh start.
unfoldable pub after : List ℕ → List (List ℕ) → List (List ℕ)
after b [] = []
after b (c ∷ L) = cond (before b c) (c ∷ after b L) (after b L)

-- "the first r chains after the bookmark, or all if fewer"
abbrev pub portion : ℕ → List ℕ → List (List ℕ) → List (List ℕ)
portion r b L = take r (after b L)

-- "whether the listing has ended": no chain follows the portion
abbrev pub ended_after : ℕ → List ℕ → List (List ℕ) → Bool
ended_after r b L = leb (length (after b L)) r

-- the last chain handed over, or the old bookmark where there is none
abbrev pub last_or : {A : Type 0} → A → List A → A
last_or b [] = b
last_or b (c ∷ P) = last_or c P

-- portions laid end to end, one for each room; the next bookmark is the last chain handed over
abbrev pub laid : List ℕ → List ℕ → List (List ℕ) → List (List ℕ)
laid [] b L = []
laid (r ∷ rooms) b L = portion r b L ++ laid rooms (last_or b (portion r b L)) L

-- the rooms together
abbrev pub total : List ℕ → ℕ
total [] = 0
total (r ∷ rooms) = r + total rooms

-- the bookmark that is left after those portions
abbrev pub left : List ℕ → List ℕ → List (List ℕ) → List ℕ
left [] b L = b
left (r ∷ rooms) b L = left rooms (last_or b (portion r b L)) L
