-- The face: what it hands down is as the cycle asks, and what comes back is the portion of the listing.
use mathlib.Core.Path.{◌≡◌, refl, sym, ap, subst, ◌∙◌}
use mathlib.Core.Bool.{Bool, true, false}
use mathlib.Core.List.Memᴰ
use mathlib.Core.List.{List, [], ◌∷◌, map}
use mathlib.Core.Logic.{⊎_elim}
use Prim.Native.Nat.{ℕ, suc, ◌+◌, ◌-◌, ◌/◌, ◌≤◌}
use lib.ListN.{length, get_or, set, replicate, get_or-replicate, get_or-eq_default}
use lib.Seq.{get_or-set_other, slice, take-append_seam}
use lib.Dec.{ltb, leb}
use native.Mathlib.Omega.{arith}
use native.Mathlib.Numerals.{add-one}
use borrow.Author.Tests.{lt-ltb, le-ltb, le-leb, lt-leb}
use Rattle.std.specs.Prelude.{not, Some, None}
use Rattle.std.specs.Borrow.{Bor}
use Rattle.ways.specs.Graph.{◌∈◌}
use Rattle.ways.specs.Listing.{ways, listing}
use Rattle.ways.specs.Portions.{after}
use Rattle.ways.specs.Records.{record_of, chain_of, Fits, is_record_in}
use Rattle.ways.specs.Sizes.{record_size, most_hops}
use Rattle.ways.proofs.Cases.{lt_or_le}
use Rattle.ways.proofs.Way.{Way, way_from}
use Rattle.ways.proofs.Listed.{last_cons, last_at, way_last}
use Rattle.ways.proofs.After.{after_all, after_from, after-listing}
use Rattle.ways.proofs.Portions.{real_chains}
use Rattle.ways.proofs.Records.{way_some, way_few, listing_fits, chain_of-record_of, length-record_of, is_record_in_true}
use Rattle.compact.specs.Compact.{persons}
use Rattle.compact.specs.Links.{links_of}
use Rattle.compact.specs.declared.Graph.{Graph}
use Rattle.compact.proofs.Marking.{nobody, marked_more}
use Rattle.pages.specs.Pages.{Page, emits, blank}
use Rattle.pages.proofs.Recording.{records_first}
use Rattle.pages.proofs.Handing.{emits-written}
use Rattle.barriers.proofs.Holding.{fewest_hold}
use Rattle.search.specs.Face.{mark_of, Asked, Answered}
use Rattle.search.specs.HandingOver.{page}
use Rattle.search.specs.Bookmarks.{rest_of, onward, Beginning}
use Rattle.search.specs.Entering.{seen_of, Ready, GoneThrough}
use Rattle.search.specs.Places.{Bookmark}
use Rattle.search.specs.declared.walk.Walk.{Walk}

-- ---- the bookmark

-- the bookmark is the record of From and a way on
pub record Marks (g : ℕ → List ℕ) (from to k : ℕ) (bookmark : List ℕ) : Type 0 where
  pub rest : List ℕ
  pub way : Way g to k (from ∷ []) from rest
  pub cells : bookmark ≡ record_of record_size (from ∷ rest)

marks : (g : ℕ → List ℕ) (from to k : ℕ) (bookmark : List ℕ) → is_record_in record_size (listing g from to k) bookmark ≡ true → Marks g from to k bookmark
unfolding listing
marks g from to k bookmark e =
    let r = is_record_in_true record_size (listing g from to k) bookmark e in
    let q = Memᴰ.of_map (◌∷◌ from) (ways g to k (from ∷ []) from) r.1 in
    record { rest = q.0; way = way_from g to k from (from ∷ []) q.1; cells = r.2 ∙ ap (record_of record_size) (sym q.2) }

module _ {g : ℕ → List ℕ} {from to k : ℕ} {bookmark : List ℕ} (few : k ≤ most_hops) (m : Marks g from to k bookmark) where
  marks_hops : get_or bookmark 0 0 ≡ length m.rest
  unfolding record_of
  marks_hops = ap (λ (l : List ℕ). get_or l 0 0) m.cells

  marks_chain : chain_of bookmark ≡ from ∷ m.rest
  marks_chain = ap chain_of m.cells ∙ chain_of-record_of record_size (from ∷ m.rest) (omega arith)

  marks_rest : rest_of bookmark 1 ≡ m.rest
  unfolding record_of
  marks_rest =
      let n : get_or bookmark 0 0 + 2 ≡ suc (suc (length m.rest)) = omega (arith, marks_hops) in
      ap (λ (e : ℕ). slice 2 e bookmark) n
      ∙ ap (slice 2 (suc (suc (length m.rest)))) m.cells
      ∙ take-append_seam m.rest (replicate (record_size - suc (suc (length m.rest))) 0)

  marks_begin : Beginning bookmark 1
  unfolding record_of
  marks_begin =
      let some = way_some m.way in
      let short = way_few m.way in
      record {
        cells = ap length m.cells ∙ length-record_of record_size (from ∷ m.rest) (omega arith);
        fits = omega (arith, marks_hops);
        on = omega (arith, marks_hops);
      }

  marks_end : get_or bookmark (get_or bookmark 0 0 + 1) 0 ≡ to
  unfolding record_of
  marks_end =
      ap (λ (i : ℕ). get_or bookmark (i + 1) 0) marks_hops
      ∙ ap (λ (i : ℕ). get_or bookmark i 0) (add-one (length m.rest))
      ∙ ap (λ (l : List ℕ). get_or l (suc (length m.rest)) 0) m.cells
      ∙ last_at to (from ∷ m.rest) (replicate (record_size - suc (suc (length m.rest))) 0) (last_cons to from m.rest (way_last m.way))

-- ---- what the face hands down

seen_first : (from : ℕ) → seen_of (set blank 1 from) 1 ≡ from ∷ []
unfolding seen_of
seen_first from = refl

zeros : (i : ℕ) → get_or blank i 0 ≡ 0
zeros i = ⊎_elim (λ l. get_or-replicate record_size i 0 0 l) (λ l. get_or-eq_default blank 0 {n = i} l) (lt_or_le i record_size)

-- the walk at its start
abbrev pub begun : Graph → List ℕ → ℕ → ℕ → ℕ → List ℕ → Walk
begun graph fewest from to room trail = record { graph = graph; ask = record { to = to; room = room }; marks = set (replicate persons false) from true; barriers = fewest; chain = set blank 1 from; trail = trail; height = 0; count = 0 }

module _ {graph : Graph} {fewest : List ℕ} {from to hops : ℕ} {start : Bookmark} (k : Asked graph.starts.now graph.targets.now fewest from to hops start) where
  pub list_ready : (out trail : List ℕ) → Ready (begun graph fewest from to (length out / record_size) trail) out (record { len = 1; left = hops }) start from
  list_ready out trail =
      let mark = λ (b : Bor (List ℕ)) (e : start ≡ Some b). marks (links_of graph) from to hops b.now (k.marked b e) in
      record {
        place = k.source;
        marked = rw (seen_first from) (marked_more from k.source nobody);
        long = refl;
        blank = λ i l. get_or-set_other blank 1 i from 0 (λ e. omega arith) ∙ zeros i;
        some = k.some;
        short = omega (arith, k.few);
        room = omega arith;
        begun = record { begins = λ b e. marks_begin k.few (mark b e) };
        ends = λ b e. marks_end k.few (mark b e);
        hold = rw (seen_first from) (fewest_hold (links_of graph) to hops fewest k.wide k.exact k.some (omega (arith, k.few)) (from ∷ []));
        fits = omega arith;
      }

-- ---- what comes back

-- those behind the bookmark are the ways behind its rest, with From before them
behind : (graph : Graph) {fewest : List ℕ} {from to hops : ℕ} (start : Bookmark) → Asked graph.starts.now graph.targets.now fewest from to hops start
    → map (◌∷◌ from) (onward start 1 (ways (links_of graph) to hops (from ∷ []) from)) ≡ after (mark_of start) (listing (links_of graph) from to hops)
unfolding listing onward
behind graph {from = from} {to} {hops} None k =
    sym (after_all [] (listing (links_of graph) from to hops) (real_chains (links_of graph) graph.compact.rising from to hops))
behind graph {from = from} {to} {hops} (Some b) k =
    let g = links_of graph in
    let m = marks g from to hops b.now (k.marked b refl) in
    rw (marks_chain k.few m, marks_rest k.few m) (sym (after-listing g from to hops m.rest))

ended_more : (d n : ℕ) → ltb d n ≡ not (leb n d)
ended_more d n = ⊎_elim (λ l. rw (lt-ltb d n l, lt-leb n d l)) (λ l. rw (le-ltb d n l, le-leb n d l)) (lt_or_le d n)

pub list_answered : {graph : Graph} {fewest : List ℕ} {from to hops : ℕ} {start : Bookmark} {walk : Walk} {out out' trail : List ℕ} {more : Bool} → Asked graph.starts.now graph.targets.now fewest from to hops start
    → GoneThrough (begun graph fewest from to (length out / record_size) trail) walk out out' (record { len = 1; left = hops }) start from more
    → Answered graph.starts.now graph.targets.now from to hops start out out' (record { count = walk.count; more = more })
list_answered {graph} {fewest} {from} {to} {hops} {start} {out = out} {out'} {trail} k s =
    let g = links_of graph in
    let room = length out / record_size in
    let L = after (mark_of start) (listing g from to hops) in
    let ws = onward start 1 (ways g to hops (from ∷ []) from) in
    let fits : (c : List ℕ) → c ∈ L → Fits record_size c = λ c m. listing_fits g from to hops record_size (let j = k.few in omega arith) c (after_from (mark_of start) (listing g from to hops) m).0 in
    let done = rw seen_first at s.right
    ∙ ap (emits true room (page (begun graph fewest from to room trail) false out)) (records_first from ws (λ c m. fits c (subst (λ l. c ∈ l) (behind graph start k) m)) ∙ ap (map (record_of record_size)) (behind graph start k))
    ∙ emits-written out L fits in
    record {
      count = ap (λ (q : Page). q.count) done;
      more = ap (λ (q : Page). q.more) done ∙ ended_more room (length L);
      cells = ap (λ (q : Page). q.cells) done;
    }
