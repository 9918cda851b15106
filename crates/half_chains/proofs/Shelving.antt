-- Writing the half chains with their index, and gathering the chains: one law for each need, named after the place in the code.
use mathlib.Core.Path.{◌≡◌, refl, sym, ap, ◌∙◌}
use mathlib.Core.Bool.{Bool, true, false, false≢true}
use mathlib.Core.List.{List, [], ◌∷◌, ◌++◌, map, flat_map, map-append, append-nil, append_assoc}
use mathlib.Core.Logic.{◌≢◌, inl, inr, ⊎_elim}
use Prim.Native.Nat.{ℕ, zero, suc, ◌+◌, ◌*◌, ◌/◌, ◌≤◌, ◌<◌}
use lib.ListN.{length, get_or, set, replicate, length-set, length-map, length-append, length-replicate}
use lib.Seq.{get_or-set_same, get_or-set_other}
use native.Mathlib.Omega.{arith}
use native.Mathlib.Nat.{zero-add}
use native.Mathlib.Numerals.{add-one}
use Rattle.std.specs.Borrow.{Bor}
use Rattle.ways.specs.Graph.{Graph}
use Rattle.ways.specs.ByHops.{shorter_first}
use Rattle.ways.specs.Halves.{persons_below}
use Rattle.ways.specs.Join.{left_hops, right_hops}
use Rattle.ways.specs.Sizes.{record_size}
use Rattle.ways.proofs.Cases.{same_or_not}
use Rattle.ways.proofs.Members.{flat_map_append}
use Rattle.compact.specs.Compact.{persons}
use Rattle.compact.specs.declared.Graph as lent
use Rattle.pages.specs.Pages.{Page, emits, blank, record_with}
use Rattle.pages.specs.declared.HandedOver.{HandedOver}
use Rattle.pages.proofs.Handing.{emits-append, emits_more, emits_counted}
use Rattle.traces.specs.Indexed.{place_of, Indexed}
use Rattle.traces.specs.HandingOver.{page, writes}
use Rattle.compact.specs.Links.{links_of}
use Rattle.traces.specs.Traces.{alone, ending_at, Ready, Extended}
use Rattle.traces.specs.declared.tracing.Purpose.TheVariants.{Write}
use Rattle.traces.specs.declared.tracing.Tracing.{Tracing}
use Rattle.half_chains.specs.Shelf.{nothing, Begun, halves_from, halves_below, First, Firsts, halves_of, shelf_of, from_marked, Shelve, Shelved, from_one, ways_of, Gather, Gathered}
use Rattle.half_chains.specs.declared.sought.Sought.{Sought}
use Rattle.traces.proofs.Turns.{Over, over_all, turn_next, turn_end}
use Rattle.traces.proofs.Steps.{unmarked, taken}

-- ---- `begin`

module _ {w : Tracing} {marks : List Bool} {working : List ℕ} {hops p : ℕ} {before : HandedOver} where
  -- the person is From
  pub begin_marked : get_or marks p false ≡ true → Begun w marks marks working working hops p before before
  unfolding emits
  begin_marked h = record { same = refl; right = rw h }

  pub begin_begun : {marks' : List Bool} {working' : List ℕ} {after : HandedOver} → w.rest ≡ 0 → get_or marks p false ≡ false
      → Extended w (set marks p true) marks' working working' (alone p hops) before after
      → Begun w marks (set marks' p false) working working' hops p before after
  begin_begun whole free e = record {
    same = ap (λ (m : List Bool). set m p false) e.same ∙ unmarked marks p free;
    right = rw whole at e.right ∙ taken (links_of w.graph) (ending_at w.to) hops marks blank 0 p (writes w.purpose) w.room (page before working) free;
  }

-- ---- `by_first_person`: what was handed over is what begins with a person before p, and the index says how much that is

pub below_next : (g : Graph) (to : ℕ) (marks : List Bool) (hops p : ℕ) → halves_below g to marks hops (suc p) ≡ halves_below g to marks hops p ++ halves_from g to marks hops p
unfolding persons_below flat_map
below_next g to marks hops p = flat_map_append (halves_from g to marks hops) (persons_below p) (p ∷ []) ∙ ap (λ (l : List (List ℕ)). halves_below g to marks hops p ++ l) (append-nil (halves_from g to marks hops p))

-- with nothing noted, all that was handed over is counted
counted : (written : Bool) (room : ℕ) (records : List ℕ → List ℕ) (start now : Page) (all : List (List ℕ)) → now ≡ emits written room start (map records all) → now.more ≡ false → now.count ≡ start.count + length all
counted written room records start now all e z =
    ap (λ (q : Page). q.count) e
    ∙ emits_counted written room start (map records all) (sym (ap (λ (q : Page). q.more) e) ∙ z)
    ∙ ap (λ (m : ℕ). start.count + m) (length-map all records)

pub record Noting (w : Tracing) (marks₀ : List Bool) (index₀ working₀ : List ℕ) (n hops : ℕ) (before : HandedOver) (marks : List Bool) (index working : List ℕ) (got : HandedOver) (p : ℕ) : Type 0 where
  pub first : First w marks₀ index₀ working₀ n hops before
  pub same : marks ≡ marks₀
  pub wide : length index ≡ length index₀
  pub long : length working ≡ length working₀
  pub within : p ≤ n
  pub right : page got working ≡ emits (writes w.purpose) w.room (page before working₀) (map (record_with blank 0) (halves_below (links_of w.graph) w.to marks₀ hops p))
  pub notes : (q : ℕ) → q < p → get_or index (place_of hops q) 0 ≡ before.count + length (halves_below (links_of w.graph) w.to marks₀ hops q)
  pub others : (c : ℕ) → ((q : ℕ) → q ≤ n → c ≢ place_of hops q) → get_or index c 0 ≡ get_or index₀ c 0

module _ {w : Tracing} {marks : List Bool} {index working : List ℕ} {n hops : ℕ} {before : HandedOver} where
  pub note_start : First w marks index working n hops before → Noting w marks index working n hops before marks index working before 0
  unfolding persons_below flat_map emits
  note_start k = record { first = k; same = refl; wide = refl; long = refl; within = omega arith; right = refl; notes = λ q h. absurd (omega arith); others = λ c h. refl }

  module _ {marks' : List Bool} {index' working' : List ℕ} {got : HandedOver} {p : ℕ} (inv : Noting w marks index working n hops before marks' index' working' got p) where
    note_place : (q : ℕ) → q ≤ n → place_of hops q < length index'
    note_place q l = omega (arith, inv.first.within, inv.first.known, inv.wide)

    -- the count is noted at p
    noted : got.more ≡ false → (q : ℕ) → q < p + 1 → get_or (set index' (place_of hops p) got.count) (place_of hops q) 0 ≡ before.count + length (halves_below (links_of w.graph) w.to marks hops q)
    noted z q l =
        ⊎_elim
        (λ e. rw e (get_or-set_same index' (place_of hops p) got.count 0 (note_place p inv.within) ∙ counted (writes w.purpose) w.room (record_with blank 0) (page before working) (page got working') (halves_below (links_of w.graph) w.to marks hops p) inv.right z))
        (λ d. get_or-set_other index' (place_of hops p) (place_of hops q) got.count 0 (λ e. d (omega (arith, e))) ∙ inv.notes q (omega (arith, d)))
        (same_or_not q p)

    elsewhere : (c : ℕ) → ((q : ℕ) → q ≤ n → c ≢ place_of hops q) → get_or (set index' (place_of hops p) got.count) c 0 ≡ get_or index c 0
    elsewhere c h = get_or-set_other index' (place_of hops p) c got.count 0 (h p inv.within) ∙ inv.others c h

    pub note_turn : {marks'' : List Bool} {working'' : List ℕ} {got' : HandedOver} → p < n → got.more ≡ false → Begun w marks' marks'' working' working'' hops p got got' → length working'' ≡ length working'
        → Noting w marks index working n hops before marks'' (set index' (place_of hops p) got.count) working'' got' (p + 1)
    note_turn lt none b long = record {
      first = inv.first;
      same = b.same ∙ inv.same;
      wide = length-set index' (place_of hops p) got.count ∙ inv.wide;
      long = long ∙ inv.long;
      within = omega arith;
      right = turn_next (halves_below (links_of w.graph) w.to marks hops) (halves_from (links_of w.graph) w.to marks hops) (below_next (links_of w.graph) w.to marks hops) (record_with blank 0) (writes w.purpose) w.room (page before working) p inv.right (rw inv.same at b.right);
      notes = noted none;
      others = elsewhere;
    }

    pub note_end : Over p n (page got working') → Firsts w marks marks' index (set index' (place_of hops n) got.count) working working' n hops before got
    note_end over = record {
      same = inv.same;
      right = turn_end (halves_below (links_of w.graph) w.to marks hops) (halves_from (links_of w.graph) w.to marks hops) (below_next (links_of w.graph) w.to marks hops) (record_with blank 0) (writes w.purpose) w.room (page before working) p inv.right inv.within over;
      notes = λ z q l. let e : p ≡ n = over_all (page got working') over inv.within z in rw (← e) (noted z q (omega arith));
      others = λ c h. get_or-set_other index' (place_of hops n) c got.count 0 (h n (omega arith)) ∙ inv.others c h;
    }

-- ---- lists of 1, 2, .. hops

from_next : (f : ℕ → List (List ℕ)) (k : ℕ) → from_one f (suc k) ≡ from_one f k ++ f (suc k)
unfolding from_one
from_next f k = refl

-- of 0, 1, .. hops
pub shorter_from : (f : ℕ → List (List ℕ)) (k : ℕ) → shorter_first f k ≡ f 0 ++ from_one f k
unfolding shorter_first from_one
shorter_from f zero = sym (append-nil (f 0))
shorter_from f (suc k) = ap (λ (l : List (List ℕ)). l ++ f (suc k)) (shorter_from f k) ∙ append_assoc (f 0) (from_one f k) (f (suc k))

pub shelf_next : (g : Graph) (n to : ℕ) (marks : List Bool) (j : ℕ) → shelf_of g n to marks (suc j) ≡ shelf_of g n to marks j ++ halves_of g n to marks (suc j)
unfolding shorter_first
shelf_next g n to marks j = refl

-- a loop that is over before the next number of hops is over behind those that are done
over_done : (now : Page) {next done most : ℕ} → next ≡ done + 1 → Over next (most + 1) now → Over done most now
over_done now at (inl l) = inl (omega arith)
over_done now at (inr m) = inr m

-- ---- `shelve`: what was handed over behind (To) alone is the half chains of 1, 2, .. hops, up to the next number of hops

pub record Shelving (w : Tracing) (marks₀ : List Bool) (index₀ working₀ : List ℕ) (sought : Sought) (before : HandedOver) (marks : List Bool) (index working : List ℕ) (got : HandedOver) (next : ℕ) : Type 0 where
  pub done : ℕ
  pub at : next ≡ done + 1
  pub shelve : Shelve w.graph index₀ working₀ sought
  pub whole : w.rest ≡ 0
  pub people : length marks₀ ≡ persons
  pub rooms : w.room * record_size ≤ length working₀
  pub same : marks ≡ marks₀
  pub wide : length index ≡ length index₀
  pub long : length working ≡ length working₀
  pub within : done ≤ sought.hops / 2
  pub right : page got working ≡ emits (writes w.purpose) w.room (page before working₀) (map (record_with blank 0) (from_one (halves_of (links_of w.graph) sought.persons w.to marks₀) done))
  pub notes : got.more ≡ false → (j p : ℕ) → j < done → p ≤ sought.persons → get_or index (place_of (suc j) p) 0 ≡ before.count + length (from_one (halves_of (links_of w.graph) sought.persons w.to marks₀) j ++ halves_below (links_of w.graph) w.to marks₀ (suc j) p)
  pub others : (j p : ℕ) → sought.persons < p → p ≤ persons → get_or index (place_of (suc j) p) 0 ≡ get_or index₀ (place_of (suc j) p) 0

from_wide : (from : ℕ) → length (from_marked from) ≡ persons
from_wide from = length-set (replicate persons false) from true ∙ length-replicate persons false

module _ {w : Tracing} {index working : List ℕ} {sought : Sought} where
  -- (To) alone
  module _ (k : Shelve w.graph index working sought) (whole : w.rest ≡ 0) (sized : w.room ≡ length working / record_size) where
    pub shelve_start : {marks' : List Bool} {working' : List ℕ} {got : HandedOver} → Begun w (from_marked sought.from) marks' working working' 0 sought.to nothing got → length working' ≡ length working
        → Shelving w marks' index working' sought got marks' index working' got 1
    unfolding from_one emits
    shelve_start b long = record {
      done = 0;
      at = refl;
      shelve = record { seeking = k.seeking; within = k.within };
      whole = whole;
      people = ap length b.same ∙ from_wide sought.from;
      rooms = omega (arith, long, sized);
      same = refl;
      wide = refl;
      long = refl;
      within = omega arith;
      right = refl;
      notes = λ z j p h. absurd (omega arith);
      others = λ j p h l. refl;
    }

  module _ {marks : List Bool} {before : HandedOver} {marks' : List Bool} {index' working' : List ℕ} {got : HandedOver} {next : ℕ} (inv : Shelving w marks index working sought before marks' index' working' got next) where
    module _ {marks'' : List Bool} {index'' working'' : List ℕ} {got' : HandedOver} (le : next ≤ sought.hops / 2) (none : got.more ≡ false) (f : Firsts w marks' marks'' index' index'' working' working'' sought.persons next got got') where
      row-noted : got'.more ≡ false → (p : ℕ) → p ≤ sought.persons → get_or index'' (place_of (suc inv.done) p) 0 ≡ before.count + length (from_one (halves_of (links_of w.graph) sought.persons w.to marks) inv.done ++ halves_below (links_of w.graph) w.to marks (suc inv.done) p)
      row-noted z p l =
          let came : got.count ≡ before.count + length (from_one (halves_of (links_of w.graph) sought.persons w.to marks) inv.done) = counted (writes w.purpose) w.room (record_with blank 0) (page before working) (page got working') (from_one (halves_of (links_of w.graph) sought.persons w.to marks) inv.done) inv.right none in
          let row : get_or index'' (place_of (suc inv.done) p) 0 ≡ got.count + length (halves_below (links_of w.graph) w.to marks (suc inv.done) p) = rw (inv.at, add-one inv.done, inv.same) at (f.notes z p l) in
          omega (arith, came, row, length-append (from_one (halves_of (links_of w.graph) sought.persons w.to marks) inv.done) (halves_below (links_of w.graph) w.to marks (suc inv.done) p))

      elsewhere-kept : (j p : ℕ) → j ≢ inv.done → p ≤ persons → get_or index'' (place_of (suc j) p) 0 ≡ get_or index' (place_of (suc j) p) 0
      elsewhere-kept j p d l = f.others (place_of (suc j) p) (λ q i e. omega (arith, d, l, i, e, inv.at, inv.shelve.seeking.known))

      pub shelve_turn : length index'' ≡ length index' → length working'' ≡ length working' → Shelving w marks index working sought before marks'' index'' working'' got' (next + 1)
      unfolding halves_of
      shelve_turn wide long = record {
        done = inv.done + 1;
        at = omega (arith, inv.at);
        shelve = inv.shelve;
        whole = inv.whole;
        people = inv.people;
        rooms = inv.rooms;
        same = f.same ∙ inv.same;
        wide = wide ∙ inv.wide;
        long = long ∙ inv.long;
        within = omega (arith, inv.at);
        right = turn_next (from_one (halves_of (links_of w.graph) sought.persons w.to marks)) (λ j. halves_of (links_of w.graph) sought.persons w.to marks (suc j)) (from_next (halves_of (links_of w.graph) sought.persons w.to marks)) (record_with blank 0) (writes w.purpose) w.room (page before working) inv.done inv.right (rw (inv.at, add-one inv.done, inv.same) at f.right);
        notes = λ z j p h l.
            ⊎_elim
            (λ e. rw e (row-noted z p l))
            (λ d. elsewhere-kept j p d (omega (arith, l, inv.shelve.seeking.known)) ∙ inv.notes none j p (omega (arith, d)) l)
            (same_or_not j inv.done);
        others = λ j p h l. f.others (place_of (suc j) p) (λ q i e. omega (arith, h, l, i, e, inv.at)) ∙ inv.others j p h l;
      }

-- behind (To) alone
module _ {w : Tracing} {marks₁ : List Bool} {index working working₁ : List ℕ} {sought : Sought} {before : HandedOver} {marks' : List Bool} {index' working' : List ℕ} {got : HandedOver} {next : ℕ} (towards : w.to ≡ sought.to) (sized : w.room ≡ length working / record_size)
    (b : Begun w (from_marked sought.from) marks₁ working working₁ 0 sought.to nothing before) (inv : Shelving w marks₁ index working₁ sought before marks' index' working' got next)
    (over : Over next (sought.hops / 2 + 1) (page got working')) where
  behind : page got working' ≡ emits (writes w.purpose) (length working / record_size) (page before working₁) (map (record_with blank 0) (from_one (halves_of (links_of w.graph) sought.persons sought.to (from_marked sought.from)) (sought.hops / 2)))
  behind = rw (b.same, sized, towards) at (turn_end (from_one (halves_of (links_of w.graph) sought.persons w.to marks₁)) (λ j. halves_of (links_of w.graph) sought.persons w.to marks₁ (suc j)) (from_next (halves_of (links_of w.graph) sought.persons w.to marks₁)) (record_with blank 0) (writes w.purpose) w.room (page before working₁) inv.done inv.right inv.within (over_done (page got working') inv.at over))

  first-behind : page before working₁ ≡ emits (writes w.purpose) (length working / record_size) (page nothing working) (map (record_with blank 0) (halves_from (links_of w.graph) sought.to (from_marked sought.from) 0 sought.to))
  first-behind = rw (sized, towards) at b.right

  not-noted : got.more ≡ false → before.more ≡ false
  not-noted z = go before.more refl
    where
      go : (m : Bool) → before.more ≡ m → m ≡ false
      go true n = absurd (false≢true (sym z ∙ ap (λ (q : Page). q.more) (behind ∙ emits_more (writes w.purpose) (length working / record_size) (page before working₁) _ n) ∙ n))
      go false n = refl

  -- with nothing noted in the end, (To) alone was counted
  to_alone : got.more ≡ false → before.count ≡ length (halves_from (links_of w.graph) sought.to (from_marked sought.from) 0 sought.to)
  to_alone z = counted (writes w.purpose) (length working / record_size) (record_with blank 0) (page nothing working) (page before working₁) (halves_from (links_of w.graph) sought.to (from_marked sought.from) 0 sought.to) first-behind (not-noted z) ∙ zero-add _

  pub shelve_end : Shelved w.graph index index' working working' sought w.purpose got
  unfolding halves_of
  shelve_end = record {
    right = rw (shorter_from (halves_of (links_of w.graph) sought.persons sought.to (from_marked sought.from)) (sought.hops / 2), map-append, emits-append, ← first-behind) behind;
    notes = λ z j p h l.
        let e : inv.done ≡ sought.hops / 2 = over_all (page got working') (over_done (page got working') inv.at over) inv.within z in
        let noted : get_or index' (place_of (suc j) p) 0 ≡ before.count + length (from_one (halves_of (links_of w.graph) sought.persons sought.to (from_marked sought.from)) j ++ halves_below (links_of w.graph) sought.to (from_marked sought.from) (suc j) p) = rw (b.same, towards) at (inv.notes z j p (omega (arith, e)) l) in
        let shelf : length (shelf_of (links_of w.graph) sought.persons sought.to (from_marked sought.from) j) ≡ length (halves_from (links_of w.graph) sought.to (from_marked sought.from) 0 sought.to) + length (from_one (halves_of (links_of w.graph) sought.persons sought.to (from_marked sought.from)) j) = ap length (shorter_from (halves_of (links_of w.graph) sought.persons sought.to (from_marked sought.from)) j) ∙ length-append (halves_from (links_of w.graph) sought.to (from_marked sought.from) 0 sought.to) (from_one (halves_of (links_of w.graph) sought.persons sought.to (from_marked sought.from)) j) in
        omega (arith, noted, shelf, to_alone z, length-append (from_one (halves_of (links_of w.graph) sought.persons sought.to (from_marked sought.from)) j) (halves_below (links_of w.graph) sought.to (from_marked sought.from) (suc j) p), length-append (shelf_of (links_of w.graph) sought.persons sought.to (from_marked sought.from) j) (halves_below (links_of w.graph) sought.to (from_marked sought.from) (suc j) p));
    others = inv.others;
  }

-- ---- `gather`: what was handed over is the chains of fewer hops than the next number of them

pub record Gathering (graph : lent.Graph) (halves index out₀ : List ℕ) (sought : Sought) (marks : List Bool) (out : List ℕ) (got : HandedOver) (next : ℕ) : Type 0 where
  pub done : ℕ
  pub at : next ≡ done + 1
  pub gather : Gather graph halves index out₀ sought
  pub same : marks ≡ from_marked sought.from
  pub long : length out ≡ length out₀
  pub within : done ≤ sought.hops
  pub right : page got out ≡ emits true (length out₀ / record_size) (page nothing out₀) (map (record_with (set blank 1 sought.from) 1) (from_one (ways_of (links_of graph) halves index (from_marked sought.from) sought.from sought.to) done))

module _ {graph : lent.Graph} {halves index out : List ℕ} {sought : Sought} where
  pub gather_start : Gather graph halves index out sought → Gathering graph halves index out sought (from_marked sought.from) out nothing 1
  unfolding from_one emits
  gather_start k = record { done = 0; at = refl; gather = k; same = refl; long = refl; within = omega arith; right = refl }

  module _ {marks' : List Bool} {out' : List ℕ} {got : HandedOver} {next : ℕ} (inv : Gathering graph halves index out sought marks' out' got next) where
    pub gather_end : Over next (sought.hops + 1) (page got out') → Gathered graph halves index out out' sought got
    gather_end over =
        let ways = ways_of (links_of graph) halves index (from_marked sought.from) sought.from sought.to in
        record { right = turn_end (from_one ways) (λ i. ways (suc i)) (from_next ways) (record_with (set blank 1 sought.from) 1) true (length out / record_size) (page nothing out) inv.done inv.right inv.within (over_done (page got out') inv.at over) }

-- what is lent for the chains of L hops
abbrev pub halved : (graph : lent.Graph) (halves index : Bor (List ℕ)) (to room L : ℕ) → ((right_hops L ≡ 0 → ⊥) → Indexed halves.now index.now (right_hops L)) → Tracing
halved graph halves index to room L i = record { graph = graph; halves = halves; index = index; to = to; rest = right_hops L; room = room; purpose = Write; indexed = i }

module _ {graph : lent.Graph} {halves index : Bor (List ℕ)} {out : List ℕ} {sought : Sought} {marks' : List Bool} {out' : List ℕ} {got : HandedOver} {next : ℕ} (inv : Gathering graph halves.now index.now out sought marks' out' got next)
    {i : (right_hops next ≡ 0 → ⊥) → Indexed halves.now index.now (right_hops next)} where
  pub gather_ready : next ≤ sought.hops → got.more ≡ false → Ready (halved graph halves index sought.to (length out / record_size) next i) marks' out' (alone sought.from (left_hops next)) got
  gather_ready le none =
      let k = inv.gather in
      record {
        wide = ap length inv.same ∙ from_wide sought.from;
        room = omega (arith, inv.long);
        long = refl;
        some = omega arith;
        short = omega (arith, k.seeking.few, le);
        place = omega (arith, k.seeking.source, k.seeking.known);
        none = none;
      }

  pub gather_turn : {marks'' : List Bool} {out'' : List ℕ} {got' : HandedOver} → next ≤ sought.hops → Extended (halved graph halves index sought.to (length out / record_size) next i) marks' marks'' out' out'' (alone sought.from (left_hops next)) got got' → length out'' ≡ length out'
      → Gathering graph halves.now index.now out sought marks'' out'' got' (next + 1)
  gather_turn le e long =
      let ways = ways_of (links_of graph) halves.now index.now (from_marked sought.from) sought.from sought.to in
      record {
        done = inv.done + 1;
        at = omega (arith, inv.at);
        gather = inv.gather;
        same = e.same ∙ inv.same;
        long = long ∙ inv.long;
        within = omega (arith, inv.at);
        right = turn_next (from_one ways) (λ i. ways (suc i)) (from_next ways) (record_with (set blank 1 sought.from) 1) true (length out / record_size) (page nothing out) inv.done inv.right (rw (inv.same, inv.at, add-one inv.done) at e.right);
      }
