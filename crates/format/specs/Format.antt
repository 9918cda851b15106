-- The link file: header, feed table, row table, link table, in the order of the customer's document. Definitions only.
use Rattle.std.specs.Prelude.{List, Bool, ◌&&◌, ℕ, ◌+◌, ◌*◌, length, eqb, leb}
use Rattle.ways.specs.Sizes.{most_persons, most_links, most_feeds}
use Rattle.format.specs.Numbers.{byte, number16, number32, within}
use Rattle.format.specs.declared.layout.Counts.{Counts}
use Rattle.format.specs.declared.layout.Offsets.{Offsets}
use Rattle.format.specs.declared.links.Link.{Link}

-- The header has 32 bytes: the mark `KLF1` (bytes 4B 4C 46 31);
abbrev pub header_size : ℕ
header_size = 32

unfoldable pub marked : List ℕ → Bool
marked file = leb header_size (length file) && eqb (byte file 0) 0x4B && eqb (byte file 1) 0x4C && eqb (byte file 2) 0x46 && eqb (byte file 3) 0x31

-- then, 32 bits each, the person count n, link count m, feed count f,
abbrev pub person_count : List ℕ → ℕ
person_count file = number32 file 4

abbrev pub link_count : List ℕ → ℕ
link_count file = number32 file 8

abbrev pub feed_count : List ℕ → ℕ
feed_count file = number32 file 12

abbrev pub counts_in : List ℕ → Counts
counts_in file = record { persons = person_count file; links = link_count file; feeds = feed_count file }

-- the offset of the feed table, of the row table, of the link table, and the file length.
abbrev pub offsets_in : List ℕ → Offsets
offsets_in file = record { feeds = number32 file 16; rows = number32 file 20; links = number32 file 24; length = number32 file 28 }

-- n is 1 to 1,024; m is 0 to 4,096; f is 0 to 16.
unfoldable pub fit : Counts → Bool
fit counts = within 1 most_persons counts.persons && within 0 most_links counts.links && within 0 most_feeds counts.feeds

abbrev pub counts_fit : List ℕ → Bool
counts_fit file = fit (counts_in file)

-- Feed table at 32: 4 bytes a feed. Row table at 32+4f: n+1 entries of 32 bits. Link table after it: 12 bytes a link.
-- The file length is 32 + 4f + 4(n+1) + 12m.
abbrev pub feed_size : ℕ
feed_size = 4

abbrev pub entry_size : ℕ
entry_size = 4

abbrev pub link_size : ℕ
link_size = 12

abbrev pub feed_at : ℕ → ℕ
feed_at feed = header_size + feed_size * feed

abbrev pub rows_start : ℕ → ℕ
rows_start f = feed_at f

abbrev pub links_start : ℕ → ℕ → ℕ
links_start n f = rows_start f + entry_size * (n + 1)

abbrev pub length_for : ℕ → ℕ → ℕ → ℕ
length_for n m f = links_start n f + link_size * m

abbrev pub offsets_for : Counts → Offsets
offsets_for counts = record {
  feeds = header_size;
  rows = rows_start counts.feeds;
  links = links_start counts.persons counts.feeds;
  length = length_for counts.persons counts.links counts.feeds;
}

-- the offsets and the length are as derived, and the length is that of the slice
unfoldable pub agree : Offsets → Offsets → ℕ → Bool
agree stated derived slice =
    eqb stated.feeds derived.feeds
    && eqb stated.rows derived.rows
    && eqb stated.links derived.links
    && eqb stated.length derived.length
    && eqb slice derived.length

abbrev pub laid_out : List ℕ → Bool
laid_out file = agree (offsets_in file) (offsets_for (counts_in file)) (length file)

-- A feed: archive number (16 bits), date meaning (8 bits), a zero byte.
abbrev pub archive : List ℕ → ℕ → ℕ
archive file feed = number16 file (feed_at feed)

abbrev pub meaning : List ℕ → ℕ → ℕ
meaning file feed = byte file (feed_at feed + 2)

abbrev pub feed_zero : List ℕ → ℕ → ℕ
feed_zero file feed = byte file (feed_at feed + 3)

-- Person p owns links row[p] up to but without row[p+1].
abbrev pub row_at : List ℕ → ℕ → ℕ
row_at file entry = rows_start (feed_count file) + entry_size * entry

abbrev pub row : List ℕ → ℕ → ℕ
row file entry = number32 file (row_at file entry)

-- A link: target person (32), day (32), feed index (16), kind (8), a zero byte.
abbrev pub link_at : List ℕ → ℕ → ℕ
link_at file link = links_start (person_count file) (feed_count file) + link_size * link

abbrev pub target : List ℕ → ℕ → ℕ
target file link = number32 file (link_at file link)

abbrev pub day : List ℕ → ℕ → ℕ
day file link = number32 file (link_at file link + 4)

abbrev pub feed_index : List ℕ → ℕ → ℕ
feed_index file link = number16 file (link_at file link + 8)

abbrev pub kind : List ℕ → ℕ → ℕ
kind file link = byte file (link_at file link + 10)

abbrev pub link_zero : List ℕ → ℕ → ℕ
link_zero file link = byte file (link_at file link + 11)

-- the same by value
abbrev pub link_in : List ℕ → ℕ → Link
link_in file link = record { target = target file link; day = day file link; feed = feed_index file link; kind = kind file link; zero = link_zero file link }

-- A day is 1 to 3,652,059 (31 December 9999), or 0 for undated.
abbrev pub last_day : ℕ
last_day = 3652059
