-- What entering a person, going through that person's links and leaving ask, and what they do. Definitions only.
use Rattle.std.specs.Prelude.{◌≡◌, Bool, true, false, Some, List, [], ◌∷◌, map, ℕ, zero, suc, ◌+◌, ◌-◌, ◌*◌, ◌≤◌, ◌<◌, length, get_or}
use Rattle.std.specs.Borrow.{Bor}
use Rattle.std.specs.declared.cmp.Ordering.{Ordering}
use Rattle.std.specs.Ordering.{is_gt}
use Rattle.ways.specs.Listing.{by, ways}
use Rattle.ways.specs.Sizes.{record_size}
use Rattle.compact.specs.Compact.{persons}
use Rattle.compact.specs.Links.{links_of}
use Rattle.compact.specs.Marks.{Marked}
use Rattle.pages.specs.Pages.{Page, emits, record_with}
use Rattle.barriers.specs.Barriers.{Hold, Barred}
use Rattle.search.specs.HandingOver.{page}
use Rattle.search.specs.Bookmarks.{onward, Tight}
use Rattle.search.specs.Places.{Bookmark}
use Rattle.search.specs.declared.places.Stand.{Stand}
use Rattle.search.specs.declared.walk.Walk.{Walk}

-- the first n persons of the chain, the last first
unfoldable pub seen_of : List ℕ → ℕ → List ℕ
seen_of chain zero = []
seen_of chain (suc n) = get_or chain (suc n) 0 ∷ seen_of chain n

-- what both methods ask: a person, marks of those in the chain, cells for the hops left and zeros in them, a bookmark that
-- ends at To while the chain is its beginning, barriers that hold
pub record Ready (walk : Walk) (out : List ℕ) (s : Stand) (tight : Bookmark) (at : ℕ) : Type 0 where
  pub place : at < persons
  pub marked : Marked walk.marks (seen_of walk.chain s.len)
  pub long : length walk.chain ≡ record_size
  pub blank : (i : ℕ) → s.len < i → get_or walk.chain i 0 ≡ 0
  pub some : 1 ≤ s.left
  pub short : s.len + s.left < record_size
  pub room : walk.ask.room * record_size ≤ length out
  pub begun : Tight tight s.len
  pub ends : (b : Bor (List ℕ)) → tight ≡ Some b → get_or b.now (get_or b.now 0 0 + 1) 0 ≡ walk.ask.to
  pub hold : Hold (links_of walk.graph) walk.ask.to (seen_of walk.chain s.len) walk.barriers
  pub fits : walk.height ≤ length walk.trail

-- the ways on from the person at, who stands last in the chain
abbrev pub following : Walk → Stand → Bookmark → ℕ → List (List ℕ)
following walk s tight at = onward tight s.len (ways (links_of walk.graph) walk.ask.to s.left (seen_of walk.chain s.len) at)

-- the ways on whose next person is v
abbrev pub through : Walk → Stand → Bookmark → ℕ → List (List ℕ)
through walk s tight v = onward tight s.len (by walk.ask.to (seen_of walk.chain s.len) (ways (links_of walk.graph) walk.ask.to (s.left - 1)) v)

-- the records of the chain so far with each of the ways behind it
abbrev pub handed : Walk → Stand → Page → List (List ℕ) → Page
handed walk s p ws = emits true walk.ask.room p (map (record_with walk.chain s.len) ws)

-- where the chain stands with one more in it
abbrev pub next : Stand → Stand
next s = record { len = s.len + 1; left = s.left - 1 }

-- the graph and the question stay, and the marks and the chain are left as they were
pub record Same (walk walk' : Walk) : Type 0 where
  pub graph : walk'.graph ≡ walk.graph
  pub ask : walk'.ask ≡ walk.ask
  pub marks : walk'.marks ≡ walk.marks
  pub chain : walk'.chain ≡ walk.chain

-- what becomes of the barriers and the trail
abbrev pub Held : Walk → Walk → Stand → Type 0
Held walk walk' s = Barred (links_of walk.graph) walk.ask.to (seen_of walk.chain s.len) s.left walk.barriers walk'.barriers walk.trail walk'.trail walk.height walk'.height

-- going through a person's links hands over the ways on from there, and leaves the marks and the chain as they were
pub record GoneThrough (walk walk' : Walk) (out out' : List ℕ) (s : Stand) (tight : Bookmark) (at : ℕ) (more : Bool) : Type 0 where
  pub same : Same walk walk'
  pub right : page walk' more out' ≡ handed walk s (page walk false out) (following walk s tight at)
  pub barred : Held walk walk' s

-- entering v hands over the ways on whose next person is v
pub record Entered (walk walk' : Walk) (out out' : List ℕ) (s : Stand) (tight : Bookmark) (v : ℕ) (more : Bool) : Type 0 where
  pub same : Same walk walk'
  pub right : page walk' more out' ≡ handed walk s (page walk false out) (through walk s tight v)
  pub barred : Held walk walk' s

-- nothing was found, and nothing skipped
pub record Barren (side : Ordering) (before after : ℕ) (more : Bool) : Type 0 where
  pub loose : is_gt side ≡ true
  pub none : more ≡ false
  pub same : after ≡ before
