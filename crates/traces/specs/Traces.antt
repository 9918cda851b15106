-- What extending a chain and pairing it with its right halves ask, and what they do. Definitions only.
use Rattle.std.specs.Prelude.{◌≡◌, Bool, true, false, cond, not, ℕ, zero, suc, ◌+◌, ◌-◌, ◌*◌, ◌≤◌, ◌<◌, length, get_or, set, take, drop, eqb}
use mathlib.Core.List.{List, [], ◌∷◌, map, flat_map}
use Rattle.std.specs.List.{list_all}
use Rattle.ways.specs.Graph.{Graph, keep}
use Rattle.ways.specs.Sizes.{record_size}
use Rattle.compact.specs.Compact.{persons}
use Rattle.compact.specs.Links.{links_of}
use Rattle.pages.specs.Pages.{Page, emits, blank, record_with}
use Rattle.pages.specs.declared.HandedOver.{HandedOver}
use Rattle.traces.specs.Indexed.{place_of}
use Rattle.traces.specs.HandingOver.{page, writes}
use Rattle.traces.specs.declared.trace.Trace.{Trace}
use Rattle.traces.specs.declared.tracing.Tracing.{Tracing}

-- so many cells from one on
abbrev pub part : List ℕ → ℕ → ℕ → List ℕ
part cells from count = take count (drop from cells)

-- whether nobody of the persons is marked
abbrev pub clear : List Bool → List ℕ → Bool
clear marks = list_all (λ v. not (get_or marks v false))

-- ---- right halves, without their first person

-- the one without a hop is (To) alone: nobody stands behind To
abbrev pub ending_at : ℕ → ℕ → List (List ℕ)
ending_at to p = cond (eqb p to) ([] ∷ []) []

-- the persons of a right half behind its first, by the number of its record
abbrev pub rest_of : List ℕ → ℕ → ℕ → List ℕ
rest_of halves rest half = part halves (half * record_size + 2) rest

-- those of so many right halves, from one on
unfoldable pub rests_of : List ℕ → ℕ → ℕ → ℕ → List (List ℕ)
rests_of halves rest half zero = []
rests_of halves rest half (suc n) = rest_of halves rest half ∷ rests_of halves rest (suc half) n

-- those that start at the person p, by the index
abbrev pub indexed_at : List ℕ → List ℕ → ℕ → ℕ → List (List ℕ)
indexed_at halves index rest p = rests_of halves rest (get_or index (place_of rest p) 0) (get_or index (place_of rest p + 1) 0 - get_or index (place_of rest p) 0)

-- those of so many hops that start at the person p
abbrev pub rights_of : List ℕ → List ℕ → ℕ → ℕ → ℕ → List (List ℕ)
rights_of halves index to rest p = cond (eqb rest 0) (ending_at to p) (indexed_at halves index rest p)

-- those that are lent
abbrev pub rights_in : Tracing → ℕ → List (List ℕ)
rights_in w = rights_of w.halves.now w.index.now w.to w.rest

-- the sequence of one person, to which so many hops are still to come
abbrev pub alone : ℕ → ℕ → Trace
alone p hops = record { chain = set blank 1 p; len = 1; left = hops; last = p }

-- the records of the chain so far with each of the ways on behind it
abbrev pub handed : Tracing → Trace → Page → List (List ℕ) → Page
handed w t s ws = emits (writes w.purpose) w.room s (map (record_with t.chain t.len) ws)

-- cells for the records and for the hops of a chain that is whole, a mark for each person, and nothing noted yet
pub record Ready (w : Tracing) (marks : List Bool) (out : List ℕ) (t : Trace) (before : HandedOver) : Type 0 where
  pub wide : length marks ≡ persons
  pub room : w.room * record_size ≤ length out
  pub long : length t.chain ≡ record_size
  pub some : 1 ≤ t.len
  pub short : t.len + t.left + w.rest < record_size
  pub place : t.last < persons
  pub none : before.more ≡ false

-- each right half that starts at the last person
pub record Arrived (w : Tracing) (marks : List Bool) (out out' : List ℕ) (t : Trace) (before after : HandedOver) : Type 0 where
  pub right : page after out' ≡ handed w t (page before out) (keep (clear marks) (rights_in w t.last))

-- the ways on from p, who stands last: so many hops past nobody marked, and then a right half that nobody marked stands in
unfoldable pub following : Graph → (ℕ → List (List ℕ)) → ℕ → List Bool → ℕ → List (List ℕ)
following g rights zero marks p = keep (clear marks) (rights p)
following g rights (suc i) marks p = flat_map (λ v. cond (get_or marks v false) [] (map (◌∷◌ v) (following g rights i (set marks v true) v))) (g p)

-- the ways on whose next person is v
abbrev pub taking : Graph → (ℕ → List (List ℕ)) → ℕ → List Bool → ℕ → List (List ℕ)
taking g rights i marks v = cond (get_or marks v false) [] (map (◌∷◌ v) (following g rights i (set marks v true) v))

-- extending
pub record Extended (w : Tracing) (marks marks' : List Bool) (out out' : List ℕ) (t : Trace) (before after : HandedOver) : Type 0 where
  pub same : marks' ≡ marks
  pub right : page after out' ≡ handed w t (page before out) (following (links_of w.graph) (rights_in w) t.left marks t.last)
