-- After a bookmark: what stands behind it, person by person. Definitions only.
use Rattle.std.specs.Prelude.{◌≡◌, true, false, cond, Some, None, List, [], ◌∷◌, map, ℕ, ◌+◌, ◌≤◌, length, get_or}
use Rattle.std.specs.Borrow.{Bor}
use Rattle.std.specs.declared.cmp.Ordering.{Ordering}
use Rattle.std.specs.Ordering.{is_lt, is_eq}
use Rattle.std.proofs.Math.Seq.{slice}
use Rattle.ways.specs.Portions.{after}
use Rattle.ways.specs.Sizes.{record_size}
use Rattle.search.specs.Places.{Bookmark}

-- the bookmark's persons behind the first n, of its record
abbrev pub rest_of : List ℕ → ℕ → List ℕ
rest_of bookmark n = slice (n + 1) (get_or bookmark 0 0 + 2) bookmark

-- all, once the bookmark is left; else those that stand behind the bookmark's rest
unfoldable pub onward : Bookmark → ℕ → List (List ℕ) → List (List ℕ)
onward None n ws = ws
onward (Some b) n ws = after (rest_of b.now n) ws

-- the bookmark behind a person on the side s of it: it is kept by the same person alone
abbrev pub kept : Bookmark → Ordering → Bookmark
kept tight s = cond (is_eq s) tight None

-- while the chain of n persons is the bookmark's beginning: the bookmark is a record, and it goes on
pub record Beginning (bookmark : List ℕ) (n : ℕ) : Type 0 where
  pub cells : length bookmark ≡ record_size
  pub fits : get_or bookmark 0 0 + 2 ≤ record_size
  pub on : n ≤ get_or bookmark 0 0

pub record Tight (tight : Bookmark) (n : ℕ) : Type 0 where
  pub begins : (b : Bor (List ℕ)) → tight ≡ Some b → Beginning b.now n

-- what the side s of v says of the ways ws that go on from v: before the bookmark none; else the rest decides, by s
pub record Beside (tight : Bookmark) (n v : ℕ) (s : Ordering) : Type 0 where
  pub skipped : is_lt s ≡ true → (ws : List (List ℕ)) → onward tight n (map (◌∷◌ v) ws) ≡ []
  pub on : is_lt s ≡ false → (ws : List (List ℕ)) → onward tight n (map (◌∷◌ v) ws) ≡ map (◌∷◌ v) (onward (kept tight s) (n + 1) ws)
  pub same : is_eq s ≡ true → (b : Bor (List ℕ)) × (tight ≡ Some b) × (v ≡ get_or b.now (n + 1) 0)
