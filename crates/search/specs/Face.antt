-- What the search asks, and what it promises. Definitions only.
-- "It writes the first r chains after the bookmark, or all if fewer, from cell 0, and answers how many, and whether the
-- listing has ended. Other output cells are unchanged."
use Rattle.std.specs.Prelude.{◌≡◌, true, not, Option, Some, None, List, [], ℕ, ◌≤◌, ◌<◌, length, get_or}
use Rattle.std.specs.Borrow.{Bor}
use Rattle.ways.specs.Listing.{listing}
use Rattle.ways.specs.Portions.{portion, ended_after}
use Rattle.ways.specs.Records.{chain_of, room_of, written, is_record_in}
use Rattle.ways.specs.Fewest as least
use Rattle.ways.specs.Sizes.{record_size, most_hops}
use Rattle.compact.specs.Compact.{persons, graph_of}
use Rattle.pages.specs.declared.HandedOver.{HandedOver}

-- the bookmark's chain; a fresh start has none
abbrev pub mark_of : Option (Bor (List ℕ)) → List ℕ
mark_of None = []
mark_of (Some b) = chain_of b.now

-- From and To are persons, the hops are 1 to 8, each cell of the table has that person's fewest hops to To, and a listing that was
-- started has the record of one of its chains as the bookmark
pub record Asked (rows targets fewest : List ℕ) (from to hops : ℕ) (start : Option (Bor (List ℕ))) : Type 0 where
  pub source : from < persons
  pub target : to < persons
  pub some : 1 ≤ hops
  pub few : hops ≤ most_hops
  pub wide : length fewest ≡ persons
  pub exact : (p : ℕ) → p < persons → get_or fewest p 0 ≡ least.fewest (graph_of rows targets) to hops p
  pub marked : (b : Bor (List ℕ)) → start ≡ Some b → is_record_in record_size (listing (graph_of rows targets) from to hops) b.now ≡ true

-- so many chains of the portion there are, another follows or none, and just their records are written
pub record Answered (rows targets : List ℕ) (from to hops : ℕ) (start : Option (Bor (List ℕ))) (out out' : List ℕ) (r : HandedOver) : Type 0 where
  pub count : r.count ≡ length (portion (room_of record_size (length out)) (mark_of start) (listing (graph_of rows targets) from to hops))
  pub more : r.more ≡ not (ended_after (room_of record_size (length out)) (mark_of start) (listing (graph_of rows targets) from to hops))
  pub cells : out' ≡ written record_size (portion (room_of record_size (length out)) (mark_of start) (listing (graph_of rows targets) from to hops)) out
