-- What printing to lent bytes does. Definitions only.
use Rattle.std.specs.Prelude.{◌≡◌, List, ℕ, ◌+◌, ◌-◌, ◌*◌, ◌≤◌, ◌<◌, length}
use Rattle.std.proofs.lemmas.List.Edits.{sets}
use Rattle.ways.specs.Sizes.{most_hops}
use Rattle.text.specs.Lines.{chain_lines, chains_at}
use Rattle.text.specs.declared.Reached.{Reached}

-- the text stands in the bytes from a place on, `next` is the place behind it, and every other byte is as it was
pub record Printed (out : List ℕ) (at : ℕ) (text out' : List ℕ) (next : ℕ) : Type 0 where
  pub bytes : out' ≡ sets out at text
  pub place : next ≡ at + length text

-- the most bytes of a chain's line: a digit, a colon, nine persons of ten digits with a space in front, LF
abbrev pub longest_line : ℕ
longest_line = 2 + (most_hops + 1) * 11 + 1

-- how far the lines reach: one line a chain, from the record `first` on, while there is room for a line
pub record LinesReach (cells : List ℕ) (first count : ℕ) (out out' : List ℕ) (reached : Reached) : Type 0 where
  pub from : first ≤ reached.next
  pub to : reached.next ≤ count
  pub within : reached.bytes ≤ length out
  pub full : reached.next < count → length out < reached.bytes + longest_line
  pub lines : Printed out 0 (chain_lines (chains_at cells first (reached.next - first))) out' reached.bytes
