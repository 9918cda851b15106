-- What writing the half chains and gathering the chains ask, and what they do. Definitions only.
use Rattle.std.specs.Prelude.{◌≡◌, Bool, true, false, ◌≢◌, ℕ, zero, suc, ◌+◌, ◌*◌, ◌/◌, ◌≤◌, ◌<◌, length, get_or, set, replicate}
use mathlib.Core.List.{List, [], ◌++◌, map, flat_map}
use Rattle.ways.specs.Graph.{Graph, ◌∈◌}
use Rattle.ways.specs.ByHops.{shorter_first}
use Rattle.ways.specs.Halves.{persons_below}
use Rattle.ways.specs.Join.{left_hops, right_hops}
use Rattle.ways.specs.Sizes.{record_size, most_hops}
use Rattle.compact.specs.Compact.{persons}
use Rattle.compact.specs.declared.Graph as lent
use Rattle.pages.specs.Pages.{emits, blank, record_with}
use Rattle.pages.specs.declared.HandedOver.{HandedOver}
use Rattle.traces.specs.Indexed.{place_of, Indexed}
use Rattle.traces.specs.HandingOver.{page, writes}
use Rattle.compact.specs.Links.{links_of}
use Rattle.traces.specs.Traces.{ending_at, rights_of, following, taking}
use Rattle.half_chains.specs.declared.sought.Sought.{Sought}
use Rattle.traces.specs.declared.tracing.Purpose.{Purpose}
use Rattle.traces.specs.declared.tracing.Tracing.{Tracing}

-- chains are sought in a compact graph of so many persons: whoever is none of them has no links
pub record Seeking (graph : lent.Graph) (sought : Sought) : Type 0 where
  pub known : sought.persons ≤ persons
  pub low : (p v : ℕ) → v ∈ links_of graph p → p < sought.persons
  pub source : sought.from < sought.persons
  pub target : sought.to < sought.persons
  pub differ : sought.from ≢ sought.to
  pub few : sought.hops ≤ most_hops

-- nothing handed over, nothing noted
abbrev pub nothing : HandedOver
nothing = record { count = 0; more = false }

-- the half chains of so many hops that begin with p: no right half is behind them
pub record Begin (w : Tracing) (marks : List Bool) (working : List ℕ) (hops p : ℕ) (before : HandedOver) : Type 0 where
  pub wide : length marks ≡ persons
  pub room : w.room * record_size ≤ length working
  pub whole : w.rest ≡ 0
  pub short : hops + 1 < record_size
  pub place : p < persons
  pub none : before.more ≡ false

-- the half chains of so many hops that begin with p
abbrev pub halves_from : Graph → ℕ → List Bool → ℕ → ℕ → List (List ℕ)
halves_from g to marks hops p = taking g (ending_at to) hops marks p

-- those that begin with a person below p
abbrev pub halves_below : Graph → ℕ → List Bool → ℕ → ℕ → List (List ℕ)
halves_below g to marks hops p = flat_map (halves_from g to marks hops) (persons_below p)

pub record Begun (w : Tracing) (marks marks' : List Bool) (working working' : List ℕ) (hops p : ℕ) (before after : HandedOver) : Type 0 where
  pub same : marks' ≡ marks
  pub right : page after working' ≡ emits (writes w.purpose) w.room (page before working) (map (record_with blank 0) (halves_from (links_of w.graph) w.to marks hops p))

-- those of so many hops, one or more, that begin with one of the n persons of the file
pub record First (w : Tracing) (marks : List Bool) (index working : List ℕ) (n hops : ℕ) (before : HandedOver) : Type 0 where
  pub wide : length marks ≡ persons
  pub room : w.room * record_size ≤ length working
  pub whole : w.rest ≡ 0
  pub some : 1 ≤ hops
  pub short : hops + 1 < record_size
  pub known : n ≤ persons
  pub within : place_of hops persons < length index
  pub none : before.more ≡ false

-- the index notes before whose half chains how many stand, and changes in no other place
pub record Firsts (w : Tracing) (marks marks' : List Bool) (index index' working working' : List ℕ) (n hops : ℕ) (before after : HandedOver) : Type 0 where
  pub same : marks' ≡ marks
  pub right : page after working' ≡ emits (writes w.purpose) w.room (page before working) (map (record_with blank 0) (halves_below (links_of w.graph) w.to marks hops n))
  pub notes : after.more ≡ false → (p : ℕ) → p ≤ n → get_or index' (place_of hops p) 0 ≡ before.count + length (halves_below (links_of w.graph) w.to marks hops p)
  pub others : (c : ℕ) → ((p : ℕ) → p ≤ n → c ≢ place_of hops p) → get_or index' c 0 ≡ get_or index c 0

-- those of exactly so many hops: (To) alone, or by their first person
unfoldable pub halves_of : Graph → ℕ → ℕ → List Bool → ℕ → List (List ℕ)
halves_of g n to marks zero = halves_from g to marks 0 to
halves_of g n to marks (suc j) = halves_below g to marks (suc j) n

-- all of at most so many hops, shorter first
abbrev pub shelf_of : Graph → ℕ → ℕ → List Bool → ℕ → List (List ℕ)
shelf_of g n to marks = shorter_first (halves_of g n to marks)

-- those before the ones of j + 1 hops that begin with p
abbrev pub halves_before : Graph → ℕ → ℕ → List Bool → ℕ → ℕ → List (List ℕ)
halves_before g n to marks j p = shelf_of g n to marks j ++ halves_below g to marks (suc j) p

-- From is marked, and nobody else
abbrev pub from_marked : ℕ → List Bool
from_marked from = set (replicate persons false) from true

-- a row of the index for each number of hops, "0 to k/2 hops", but none for (To) alone
pub record Shelve (graph : lent.Graph) (index working : List ℕ) (sought : Sought) : Type 0 where
  pub seeking : Seeking graph sought
  pub within : most_hops / 2 * suc persons ≤ length index

pub record Shelved (graph : lent.Graph) (index index' working working' : List ℕ) (sought : Sought) (purpose : Purpose) (after : HandedOver) : Type 0 where
  pub right : page after working' ≡ emits (writes purpose) (length working / record_size) (page nothing working) (map (record_with blank 0) (shelf_of (links_of graph) sought.persons sought.to (from_marked sought.from) (sought.hops / 2)))
  pub notes : after.more ≡ false → (j p : ℕ) → j < sought.hops / 2 → p ≤ sought.persons → get_or index' (place_of (suc j) p) 0 ≡ length (halves_before (links_of graph) sought.persons sought.to (from_marked sought.from) j p)
  pub others : (j p : ℕ) → sought.persons < p → p ≤ persons → get_or index' (place_of (suc j) p) 0 ≡ get_or index (place_of (suc j) p) 0

-- the lists of 1, 2, .. up to k hops, one after the other
unfoldable pub from_one : (ℕ → List (List ℕ)) → ℕ → List (List ℕ)
from_one f zero = []
from_one f (suc k) = from_one f k ++ f (suc k)

-- the ways on from From to a chain of L hops, "the left half has L/2 hops rounded up, the right half the rest"
abbrev pub ways_of : Graph → List ℕ → List ℕ → List Bool → ℕ → ℕ → ℕ → List (List ℕ)
ways_of g halves index marks from to L = following g (rights_of halves index to (right_hops L)) (left_hops L) marks from

pub record Gather (graph : lent.Graph) (halves index out : List ℕ) (sought : Sought) : Type 0 where
  pub seeking : Seeking graph sought
  pub indexed : (rest : ℕ) → 1 ≤ rest → rest ≤ sought.hops / 2 → Indexed halves index rest

pub record Gathered (graph : lent.Graph) (halves index out out' : List ℕ) (sought : Sought) (after : HandedOver) : Type 0 where
  pub right : page after out' ≡ emits true (length out / record_size) (page nothing out) (map (record_with (set blank 1 sought.from) 1) (from_one (ways_of (links_of graph) halves index (from_marked sought.from) sought.from sought.to) sought.hops))
