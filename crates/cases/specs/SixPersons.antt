-- The six-person file, byte for byte, laid out as the customer's document writes it. Definitions only.
use mathlib.Core.List.{List, [], ◌∷◌, ◌++◌, flat_map}
use Rattle.std.specs.Prelude.{ℕ, ◌/◌, ◌%◌}
use Rattle.question.specs.declared.Question.{Question}

-- "Numbers are little-endian and unsigned."
abbrev pub bytes16 : ℕ → List ℕ
bytes16 x = x % 256 ∷ x / 256 ∷ []

abbrev pub bytes32 : ℕ → List ℕ
bytes32 x = bytes16 (x % 65536) ++ bytes16 (x / 65536)

-- a feed: "archive number" in 16 bits, "date meaning (8 bits), a zero byte"
abbrev pub feed_bytes : ℕ → ℕ → List ℕ
feed_bytes archive meaning = bytes16 archive ++ (meaning ∷ 0 ∷ [])

-- "target person (32), day (32), feed index (16), kind (8), a zero byte"; the numbers are given as the list of links below gives them
abbrev pub link_bytes : ℕ → ℕ → ℕ → ℕ → List ℕ
link_bytes to kind day feed = bytes32 to ++ bytes32 day ++ bytes16 feed ++ (kind ∷ 0 ∷ [])

-- the mark, then "n=6, m=10, f=2, offsets 32, 40, 68, length 188"
abbrev pub header : List ℕ
header = (0x4B ∷ 0x4C ∷ 0x46 ∷ 0x31 ∷ []) ++ flat_map bytes32 (6 ∷ 10 ∷ 2 ∷ 32 ∷ 40 ∷ 68 ∷ 188 ∷ [])

-- "Feeds: (archive 11, meaning 1), (archive 27, meaning 2)."
abbrev pub feeds : List ℕ
feeds = feed_bytes 11 1 ++ feed_bytes 27 2

-- "Rows 0 2 4 6 8 9 10."
abbrev pub rows : List ℕ
rows = flat_map bytes32 (0 ∷ 2 ∷ 4 ∷ 6 ∷ 8 ∷ 9 ∷ 10 ∷ [])

-- "Links as from→to, kind, day, feed": whom a link is from is said by the rows
abbrev pub links : List ℕ
links =
    -- 0→1 1 700000 0; 0→2 3 0 0;
    link_bytes 1 1 700000 0
    ++ link_bytes 2 3 0 0
    -- 1→3 1 700100 0; 1→4 5 700200 1;
    ++ link_bytes 3 1 700100 0
    ++ link_bytes 4 5 700200 1
    -- 2→1 4 700050 0; 2→3 1 700300 0;
    ++ link_bytes 1 4 700050 0
    ++ link_bytes 3 1 700300 0
    -- 3→2 2 700300 0; 3→5 1 700400 0;
    ++ link_bytes 2 2 700300 0
    ++ link_bytes 5 1 700400 0
    -- 4→5 1 700500 0;
    ++ link_bytes 5 1 700500 0
    -- 5→0 2 0 0.
    ++ link_bytes 0 2 0 0

-- the file: 188 bytes
unfoldable pub six : List ℕ
six = header ++ feeds ++ rows ++ links

-- from 0 to 5, and the six numbers that the cases change
abbrev pub ask : ℕ → ℕ → ℕ → ℕ → ℕ → ℕ → Question
ask hops classes meaning first last undated =
    record { from = 0; to = 5; hops = hops; classes = classes; meaning = meaning; first = first; last = last; undated = undated }

-- "Q is 0 to 5, hops 4, classes 15, meaning 1, days 1 to 3,652,059.", and undated links are admitted
abbrev pub Q : Question
Q = ask 4 15 1 1 3652059 1

-- the rings of a person, in so many hops, over the links that Q admits
abbrev pub ask_rings : ℕ → ℕ → Question
ask_rings person hops =
    record { from = person; to = person; hops = hops; classes = 15; meaning = 1; first = 1; last = 3652059; undated = 1 }
