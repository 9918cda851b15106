-- The place of each refusal, one definition each: over the file where its header is refused, else over the header's counts and what is
-- refused. Definitions only.
use Rattle.std.specs.Prelude.{List, ℕ}
use Rattle.format.specs.declared.layout.Counts.{Counts}

-- 1, "under 32 bytes, or mark differs": 0
abbrev pub mark_place : ℕ
mark_place = 0

-- 2, "a count outside its limits": 0
unfoldable pub counts_place : List ℕ → ℕ
counts_place file = 0

-- 3, "an offset or the length not as derived, or not the slice's length": 0
unfoldable pub offsets_place : List ℕ → ℕ
offsets_place file = 0

-- 4 and 5: the feed
unfoldable pub feed_place : Counts → ℕ → ℕ
feed_place counts feed = feed

-- 6, "lowest entry that breaks the rule": the entry
unfoldable pub entry_place : Counts → ℕ → ℕ
entry_place counts entry = entry

-- 7, 8 and 9: the link
unfoldable pub link_place : Counts → ℕ → ℕ
link_place counts link = link
