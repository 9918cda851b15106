-- Numbers are little-endian and unsigned. Definitions only.
use Rattle.std.specs.Prelude.{List, Bool, ◌&&◌, ℕ, ◌+◌, ◌*◌, get_or, leb}

-- the byte at a place of the file
abbrev pub byte : List ℕ → ℕ → ℕ
byte file at = get_or file at 0

-- the number of 16 bits at a place
unfoldable pub number16 : List ℕ → ℕ → ℕ
number16 file at = byte file at + 256 * byte file (at + 1)

-- the number of 32 bits at a place
unfoldable pub number32 : List ℕ → ℕ → ℕ
number32 file at = number16 file at + 65536 * number16 file (at + 2)

-- x is `low` to `high`, both included
abbrev pub within : ℕ → ℕ → ℕ → Bool
within low high x = leb low x && leb x high
