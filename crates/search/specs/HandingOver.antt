-- Handing over a chain of the search: what it asks, and what it does. Definitions only.
use Rattle.std.specs.Prelude.{◌≡◌, Bool, true, false, List, ℕ, ◌+◌, ◌*◌, ◌≤◌, ◌<◌, length, set}
use Rattle.ways.specs.Sizes.{record_size}
use Rattle.pages.specs.Pages.{Page, emit}
use Rattle.search.specs.declared.walk.Walk.{Walk}

-- the page that was handed over so far, and whether one more was seen
abbrev pub page : Walk → Bool → List ℕ → Page
page walk more out = record { count = walk.count; more = more; cells = out }

-- there are cells for the records, and in a record for the hops
pub record Room (walk : Walk) (out : List ℕ) (len hops : ℕ) : Type 0 where
  pub cells : walk.ask.room * record_size ≤ length out
  pub long : length walk.chain ≡ record_size
  pub behind : len ≤ hops
  pub short : hops + 1 < record_size

-- what handing over does: the chain's record with v behind the chain so far, and To at the end. Of the walk only the count changes
pub record Handed (walk walk' : Walk) (out out' : List ℕ) (len v hops : ℕ) (more : Bool) : Type 0 where
  pub rest : walk' ≡ record walk { count = walk'.count }
  pub right : page walk' more out' ≡ emit true walk.ask.room (page walk false out) (set (set (set walk.chain 0 hops) (len + 1) v) (hops + 1) walk.ask.to)
