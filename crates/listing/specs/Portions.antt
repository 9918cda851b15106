-- Where a portion of a listing starts, when it is refused, and which chains it has. Definitions only.
use Rattle.std.specs.Prelude.{List, [], ◌∷◌, ◌++◌, Bool, cond, ℕ, length, eqb, Option, None, Some}
use Rattle.std.specs.Borrow.{Bor}
use Rattle.refusals.specs.Faults.{Fault, sound, unless, first_of}
use Rattle.refusals.specs.Answers.{room_fault}
use Rattle.ways.specs.Graph.{◌∈◌}
use Rattle.ways.specs.Order.{Before, Rising}
use Rattle.ways.specs.Portions.{portion, ended_after}
use Rattle.ways.specs.Records.{Fits, chain_of, room_of, is_record_in}
use Rattle.ways.specs.Sizes.{record_size}

-- any list that rises strictly in dictionary order, and whose chains fit a record
pub record Listing (chains : List (List ℕ)) : Type 0 where
  pub rises : Rising Before chains
  pub fits : (c : List ℕ) → c ∈ chains → Fits record_size c

-- "a fresh start or a bookmark (a chain record)"
pub data Start : Type 0 where
  fresh : Start
  bookmarked : List ℕ → Start

-- at the C door a mark of its own says whether the listing was started: with 0 the bookmark isn't looked at
abbrev pub start_said : ℕ → List ℕ → Start
start_said started bookmark = cond (eqb started 0) fresh (bookmarked bookmark)

-- in code a start is the library's `Option`: none is fresh, and some are the cells of a bookmark
abbrev pub start_given : Option (Bor (List ℕ)) → Start
start_given None = fresh
start_given (Some bookmark) = bookmarked bookmark.now

-- the chain after which a portion starts: a fresh start comes before every chain
abbrev pub starts_after : Start → List ℕ
starts_after fresh = []
starts_after (bookmarked bookmark) = chain_of bookmark

-- 17: "the bookmark isn't ten cells, or is no record of a chain of this listing"
abbrev pub start_fault : List (List ℕ) → Start → Fault
start_fault chains fresh = sound
start_fault chains (bookmarked bookmark) = unless (is_record_in record_size chains bookmark) 17 0 sound

-- the first refusal of a portion: what is found before the listing is looked at, then 16 (output under ten cells), 17
unfoldable pub refusal_of : Fault → List (List ℕ) → Start → List ℕ → Fault
refusal_of first chains start out = first_of first (room_fault (length out) (start_fault chains start))

-- its numbers, where these are the ones that are found before the listing is looked at
abbrev pub portion_numbers_after : List ℕ → List ℕ
portion_numbers_after first = first ++ (16 ∷ 17 ∷ [])

-- "the first r chains after the bookmark, or all if fewer"
abbrev pub portion_of : List (List ℕ) → Start → List ℕ → List (List ℕ)
portion_of chains start out = portion (room_of record_size (length out)) (starts_after start) chains

-- "whether the listing has ended"
abbrev pub ended_of : List (List ℕ) → Start → List ℕ → Bool
ended_of chains start out = ended_after (room_of record_size (length out)) (starts_after start) chains
