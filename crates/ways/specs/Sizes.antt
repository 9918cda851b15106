-- The numbers of the product: the record, the hops, and the limits of a file. Every room takes them from here. Definitions only.
use Rattle.std.specs.Prelude.{ℕ}

-- "A chain record has ten 32-bit cells: the hops L, then L+1 persons, then zeros."
abbrev pub record_size : ℕ
record_size = 10

-- "hops k (1 to 8)": the most hops that a question may ask for
abbrev pub most_hops : ℕ
most_hops = 8

-- "n is 1 to 1,024; m is 0 to 4,096; f is 0 to 16."
abbrev pub most_persons : ℕ
most_persons = 1024

abbrev pub most_links : ℕ
most_links = 4096

abbrev pub most_feeds : ℕ
most_feeds = 16
