-- What a search starts behind. Definitions only.
use Rattle.std.specs.Prelude.{Option, List, ℕ}
use Rattle.std.specs.Borrow.{Bor}

-- the bookmark, while the chain is its beginning: none once the chain has left it, and in a fresh start
abbrev pub Bookmark : Type 0
Bookmark = Option (Bor (List ℕ))
