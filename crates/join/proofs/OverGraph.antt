-- The join over the compact graph: what it hands down is as its functions ask, and what comes back are the half chains and the chains by hops.
use mathlib.Core.Path.{◌≡◌, refl, sym, ap, subst, ◌∙◌}
use mathlib.Core.Bool.{Bool, true, false, not}
use mathlib.Core.List.{List, [], ◌∷◌, ◌++◌, map, map-append}
use mathlib.Core.Logic.{⊎_elim}
use Prim.Native.Nat.{ℕ, zero, suc, ◌*◌, ◌/◌, ◌≤◌, ◌<◌}
use lib.ListN.{length, get_or, take, replicate, length-replicate, get_or-replicate, get_or-eq_default}
use lib.Seq.{take_all}
use lib.Dec.{ltb, leb}
use native.Mathlib.Omega.{arith}
use borrow.Author.Tests.{lt-ltb, le-ltb, le-leb, lt-leb, ltb-true, ltb-false}
use Rattle.ways.specs.Graph.{◌∈◌, keep}
use Rattle.ways.specs.Listing.{ways, listing}
use Rattle.ways.specs.Records.{record_of, Fits, written}
use Rattle.ways.specs.ByHops.{chains_of, by_hops}
use Rattle.ways.specs.Halves.{all_half_chains}
use Rattle.ways.specs.Join.{left_hops, right_hops, joined}
use Rattle.ways.specs.Sizes.{record_size, most_hops}
use Rattle.ways.proofs.Cases.{lt_or_le}
use Rattle.ways.proofs.Records.{listing_fits}
use Rattle.ways.proofs.ByHops.{by_hops_iff}
use Rattle.ways.proofs.Join.{join, join_all, right_within}
use Rattle.compact.specs.Compact.{persons}
use Rattle.compact.specs.declared.Graph as lent
use Rattle.compact.specs.Marks.{Marked}
use Rattle.compact.proofs.Marking.{nobody, marked_more}
use Rattle.pages.specs.Pages.{Page, emits, blank, record_with}
use Rattle.pages.specs.declared.HandedOver.{HandedOver}
use Rattle.join.specs.Answers.{halves_in, JoinsIn}
use Rattle.traces.specs.Indexed.{place_of}
use Rattle.traces.specs.HandingOver.{page}
use Rattle.traces.specs.declared.tracing.Purpose.TheVariants.{Count, Write}
use Rattle.compact.specs.Links.{links_of}
use Rattle.traces.specs.Traces.{rights_of}
use Rattle.half_chains.specs.Shelf.{Seeking, nothing, shelf_of, from_marked, Shelved, from_one, ways_of, Gather, Gathered}
use Rattle.half_chains.specs.declared.sought.Sought.{Sought}
use Rattle.std.specs.Prelude.{Ok, Err}
use Rattle.refusals.specs.Reasons.{number_of}
use Rattle.refusals.specs.Faults.{sound, unless, refusal_said}
use Rattle.refusals.specs.declared.Refusal.{Refusal}
use Rattle.half_chains.proofs.Shelving.{shorter_from}
use Rattle.traces.proofs.Meeting.{meet_all}
use Rattle.pages.proofs.Recording.{records_blank, records_first}
use Rattle.pages.proofs.Handing.{emits_cells, emits-noted, emits-written}
use Rattle.half_chains.proofs.Standing.{all_halves, all_fit_lem, rights_index, indexed_halves}

-- an index with nothing in it
abbrev pub blank_index : List ℕ
blank_index = replicate (most_hops / 2 * suc persons) 0

nothing_in : (c : ℕ) → get_or blank_index c 0 ≡ 0
nothing_in c = ⊎_elim (get_or-replicate {A = ℕ} (most_hops / 2 * suc persons) c 0 0) (λ l. get_or-eq_default blank_index 0 {n = c} (rw (length-replicate {A = ℕ} (most_hops / 2 * suc persons) 0) l)) (lt_or_le c (most_hops / 2 * suc persons))

-- ---- lists of 1, 2, .. hops

from_map : (s : ℕ) (f h : ℕ → List (List ℕ)) (k : ℕ) → ((L : ℕ) → L ≤ k → map (◌∷◌ s) (f L) ≡ h L) → map (◌∷◌ s) (from_one f k) ≡ from_one h k
unfolding from_one
from_map s f h zero e = refl
from_map s f h (suc k) e = rw (map-append, from_map s f h k (λ L l. e L (omega arith)), e (suc k) (omega arith))

module _ {graph : lent.Graph} {sought : Sought} (k : Seeking graph sought) where
  -- no chain has no hop
  joined_none : joined (links_of graph) sought.persons sought.from sought.to 0 ≡ []
  unfolding chains_of listing ways keep
  joined_none = join (links_of graph) graph.compact.rising sought.persons k.low sought.from sought.to k.differ 0

  from_marked_lem : Marked (from_marked sought.from) (sought.from ∷ [])
  from_marked_lem = marked_more sought.from (omega (arith, k.source, k.known)) nobody

  -- ---- the half chains are counted, then written

  shelved_halves : map (record_with blank 0) (shelf_of (links_of graph) sought.persons sought.to (from_marked sought.from) (sought.hops / 2)) ≡ map (record_of record_size) (halves_in graph sought)
  shelved_halves = rw (all_halves k (from_marked sought.from) from_marked_lem) (records_blank (halves_in graph sought) (all_fit_lem k))

  module _ {index working working₁ : List ℕ} {counted : HandedOver} (c : Shelved graph blank_index index working working₁ sought Count counted) where
    -- only counted: no cell has changed
    pub counted_cells : working₁ ≡ working
    counted_cells = ap (λ (q : Page). q.cells) c.right ∙ emits_cells (length working / record_size) (page nothing working) _

    counted_more : counted.more ≡ ltb (length working / record_size) (length (halves_in graph sought))
    counted_more =
        ap (λ (q : Page). q.more) c.right
        ∙ ap (λ (l : List (List ℕ)). (emits false (length working / record_size) (page nothing working) l).more) shelved_halves
        ∙ emits-noted (length working / record_size) (map (record_of record_size) (halves_in graph sought)) 0 false working working
        ∙ ap (λ (q : Page). q.more) (emits-written working (halves_in graph sought) (all_fit_lem k))

    -- too many for the working cells
    pub graph_refused : {out : List ℕ} {refusal : Refusal} → refusal_said refusal ≡ unless (not counted.more) 18 0 sound → JoinsIn graph sought working working₁ out out (Err refusal)
    graph_refused {out} {refusal} said = go counted.more refl said
      where
        go : (more : Bool) → counted.more ≡ more → refusal_said refusal ≡ unless (not more) 18 0 sound → JoinsIn graph sought working working₁ out out (Err refusal)
        go true n e =
            let number : number_of refusal.reason ≡ 18 = cc in
            let place : refusal.place ≡ 0 = cc in
            let f : leb (length (halves_in graph sought)) (length working / record_size) ≡ false = lt-leb (length (halves_in graph sought)) (length working / record_size) (ltb-true (length working / record_size) (length (halves_in graph sought)) (sym counted_more ∙ n)) in
            record { answers = rw (f, number, place); shelf = rw f counted_cells; cells = rw f }
        go false n e = let z : ◌≡◌ {A = ℕ} 0 1 = cc in absurd (omega arith)

    fits_all : counted.more ≡ false → length (halves_in graph sought) ≤ length working / record_size
    fits_all z = ltb-false (length working / record_size) (length (halves_in graph sought)) (sym counted_more ∙ z)

    module _ (z : counted.more ≡ false) {index₂ working₂ : List ℕ} {shelved : HandedOver} (w : Shelved graph index index₂ working₁ working₂ sought Write shelved) where
      room : length (halves_in graph sought) ≤ length working / record_size
      room = fits_all z

      page-written : page shelved working₂ ≡ record { count = length (take (length working / record_size) (halves_in graph sought)); more = ltb (length working / record_size) (length (halves_in graph sought)); cells = written record_size (take (length working / record_size) (halves_in graph sought)) working }
      page-written =
          w.right
          ∙ ap (λ (l : List ℕ). emits true (length l / record_size) (page nothing l) (map (record_with blank 0) (shelf_of (links_of graph) sought.persons sought.to (from_marked sought.from) (sought.hops / 2)))) counted_cells
          ∙ ap (emits true (length working / record_size) (page nothing working)) shelved_halves
          ∙ emits-written working (halves_in graph sought) (all_fit_lem k)

      working_written : working₂ ≡ written record_size (halves_in graph sought) working
      working_written = ap (λ (q : Page). q.cells) page-written ∙ ap (λ (l : List (List ℕ)). written record_size l working) (take_all (length working / record_size) (halves_in graph sought) room)

      noted : shelved.more ≡ false
      noted = ap (λ (q : Page). q.more) page-written ∙ rw (le-ltb (length working / record_size) (length (halves_in graph sought)) room)

      -- nobody but the persons of the file has a place
      empty : (j p : ℕ) → sought.persons < p → p ≤ persons → get_or index₂ (place_of (suc j) p) 0 ≡ 0
      empty j p h l = w.others j p h l ∙ c.others j p h l ∙ nothing_in (place_of (suc j) p)

      module _ (wide : length index₂ ≡ length blank_index) where
        long : most_hops / 2 * suc persons ≤ length index₂
        long = omega (arith, wide, length-replicate {A = ℕ} (most_hops / 2 * suc persons) 0)

        pub graph_gather : {out : List ℕ} → Gather graph working₂ index₂ out sought
        graph_gather = record {
          seeking = k;
          indexed = λ rest i h. rw working_written (indexed_halves k (from_marked sought.from) from_marked_lem working index₂ (omega (arith, room)) long (w.notes noted) empty rest i h);
        }

        -- the chains of L hops
        ways-joined : (L : ℕ) → L ≤ sought.hops → map (◌∷◌ sought.from) (ways_of (links_of graph) working₂ index₂ (from_marked sought.from) sought.from sought.to L) ≡ joined (links_of graph) sought.persons sought.from sought.to L
        unfolding joined
        ways-joined L l =
            rw working_written
            (meet_all graph (rights_of (written record_size (halves_in graph sought) working) index₂ sought.to (right_hops L)) (all_half_chains (links_of graph) sought.persons sought.from sought.to (right_hops L))
            (rights_index k (from_marked sought.from) from_marked_lem working index₂ (omega (arith, room)) long (w.notes noted) empty (right_hops L) (right_within L sought.hops l))
            (left_hops L) sought.from (from_marked sought.from) from_marked_lem (omega (arith, k.source, k.known)))

        chains-joined : map (◌∷◌ sought.from) (from_one (ways_of (links_of graph) working₂ index₂ (from_marked sought.from) sought.from sought.to) sought.hops) ≡ by_hops (links_of graph) sought.from sought.to sought.hops
        chains-joined =
            from_map sought.from (ways_of (links_of graph) working₂ index₂ (from_marked sought.from) sought.from sought.to) (joined (links_of graph) sought.persons sought.from sought.to) sought.hops ways-joined
            ∙ sym (shorter_from (joined (links_of graph) sought.persons sought.from sought.to) sought.hops ∙ ap (λ (l : List (List ℕ)). l ++ from_one (joined (links_of graph) sought.persons sought.from sought.to) sought.hops) joined_none)
            ∙ join_all (links_of graph) graph.compact.rising sought.persons k.low sought.from sought.to k.differ sought.hops

        chains-fit : (x : List ℕ) → x ∈ by_hops (links_of graph) sought.from sought.to sought.hops → Fits record_size x
        chains-fit x m = listing_fits (links_of graph) sought.from sought.to sought.hops record_size (omega (arith, k.few)) x ((by_hops_iff (links_of graph) sought.from sought.to sought.hops x).0 m)

        ended : (d n : ℕ) → not (ltb d n) ≡ leb n d
        ended d n = ⊎_elim (λ l. rw (lt-ltb d n l, lt-leb n d l)) (λ l. rw (le-ltb d n l, le-leb n d l)) (lt_or_le d n)

        pub graph_joined : {out out' : List ℕ} {found : HandedOver} → Gathered graph working₂ index₂ out out' sought found
            → JoinsIn graph sought working working₂ out out' (Ok (record { count = found.count; ended = not found.more }))
        graph_joined {out = out} {out'} {found} g =
            let C = by_hops (links_of graph) sought.from sought.to sought.hops in
            let done : page found out' ≡ record { count = length (take (length out / record_size) C); more = ltb (length out / record_size) (length C); cells = written record_size (take (length out / record_size) C) out } =
            g.right
            ∙ ap (emits true (length out / record_size) (page nothing out))
            (records_first sought.from (from_one (ways_of (links_of graph) working₂ index₂ (from_marked sought.from) sought.from sought.to) sought.hops) (λ x m. chains-fit x (subst (λ l. x ∈ l) chains-joined m)) ∙ ap (map (record_of record_size)) chains-joined)
            ∙ emits-written out C chains-fit in
            let count = ap (λ (q : Page). q.count) done in
            let more = ap (λ (q : Page). q.more) done in
            let fit : leb (length (halves_in graph sought)) (length working / record_size) ≡ true = le-leb (length (halves_in graph sought)) (length working / record_size) room in
            record {
              answers = rw (fit, count, more, ended (length out / record_size) (length C));
              shelf = rw fit working_written;
              cells = rw fit (ap (λ (q : Page). q.cells) done);
            }
