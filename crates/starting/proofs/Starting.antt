-- Where a portion may start, and what is refused: from the tests to the promise.
use mathlib.Core.Path.{◌≡◌, refl, sym, ap, fun_ext, ◌∙◌}
use mathlib.Core.Bool.{Bool, true, false, not}
use mathlib.Core.List.{List}
use Prim.Native.Nat.{ℕ, ◌+◌, ◌≤◌}
use native.Mathlib.Omega.{arith}
use lib.ListN.{length}
use Rattle.std.specs.Prelude.{Option, None, Some, Ok, Err}
use Rattle.std.specs.Borrow.{Bor}
use Rattle.refusals.specs.Faults.{sound, unless, refusal_said}
use Rattle.refusals.specs.declared.Refusal.{Refusal}
use Rattle.ways.specs.Graph.{Graph}
use Rattle.ways.specs.Listing.{listing}
use Rattle.ways.specs.Portions.{ended_after}
use Rattle.ways.specs.Records.{is_record_in, room_of}
use Rattle.ways.specs.Sizes.{record_size}
use Rattle.compact.specs.Compact.{graph_of}
use Rattle.pages.specs.declared.HandedOver.{HandedOver}
use Rattle.question.specs.declared.Question.{Question}
use Rattle.question.specs.Admission.{next}
use Rattle.question.specs.Filled.{Filled}
use Rattle.question.proofs.Answerable.{wanted_answerable}
use Rattle.search.specs.Face as search
use Rattle.listing.specs.Portions.{Start, fresh, bookmarked, start_given, starts_after, start_fault, refusal_of}
use Rattle.listing.proofs.Answering.{portion_refused, start_left}
use Rattle.starting.specs.Bookmark.{start_fits}
use Rattle.starting.specs.Starting.{Passes, Starts}
use Rattle.starting.proofs.Bookmarks.{bookmark_is}

-- the graph that was filled is `next`
pub filled_next : {file : List ℕ} {q : Question} {starts targets : List ℕ} → Filled file q starts targets → graph_of starts targets ≡ next file q
filled_next f = fun_ext f.graph

-- the test of the start decides 17
fits_decides : (g : Graph) (q : Question) (start : Start) → q.hops + 2 ≤ record_size → start_fault (listing g q.from q.to q.hops) start ≡ unless (start_fits g q start) 17 0 sound
fits_decides g q fresh h = refl
fits_decides g q (bookmarked cells) h = rw (bookmark_is g q.from q.to q.hops record_size h cells) refl

-- the search starts behind the same chain
mark_given : (start : Option (Bor (List ℕ))) → search.mark_of start ≡ starts_after (start_given start)
mark_given None = refl
mark_given (Some bookmark) = refl

-- no chain follows just where the search says so
more_ended : (ended : Bool) {more : Bool} → more ≡ not ended → not more ≡ ended
more_ended true e = ap not e
more_ended false e = ap not e

module _ {file : List ℕ} {q : Question} {starts targets out : List ℕ} (p : Passes file q out) (f : Filled file q starts targets) (start : Option (Bor (List ℕ))) where
  few : q.hops + 2 ≤ record_size
  few = omega (arith, (wanted_answerable file q p.wanted p.asked).proper.most)

  -- what is refused is decided by the test of the start alone
  decides : refusal_of sound (listing (next file q) q.from q.to q.hops) (start_given start) out ≡ unless (start_fits (graph_of starts targets) q (start_given start)) 17 0 sound
  decides = start_left (listing (next file q) q.from q.to q.hops) (start_given start) out refl p.room ∙ rw (filled_next f) (fits_decides (next file q) q (start_given start) few)

  pub refused_start : {refusal : Refusal} → refusal_said refusal ≡ unless (start_fits (graph_of starts targets) q (start_given start)) 17 0 sound → Starts file q (start_given start) out out (Err refusal)
  refused_start e = portion_refused (decides ∙ sym e)

  -- a bookmark that the test lets pass is one that the search may start from
  pub start_marked : start_fits (graph_of starts targets) q (start_given start) ≡ true → (b : Bor (List ℕ)) → start ≡ Some b → is_record_in record_size (listing (graph_of starts targets) q.from q.to q.hops) b.now ≡ true
  start_marked e b is = sym (bookmark_is (graph_of starts targets) q.from q.to q.hops record_size few b.now) ∙ rw is at e

  -- what the search found is the portion
  pub found_portion : {out' : List ℕ} {found : HandedOver} → start_fits (graph_of starts targets) q (start_given start) ≡ true → search.Answered starts targets q.from q.to q.hops start out out' found
      → Starts file q (start_given start) out out' (Ok (record { count = found.count; ended = not found.more }))
  found_portion {out'} {found} e a =
      let none : refusal_of sound (listing (next file q) q.from q.to q.hops) (start_given start) out ≡ sound = decides ∙ rw e refl in
      let mark = mark_given start in
      let graph = filled_next f in
      record {
        answers = rw (none, more_ended (ended_after (room_of record_size (length out)) (search.mark_of start) (listing (graph_of starts targets) q.from q.to q.hops)) a.more, a.count, mark, graph) refl;
        cells = rw (none, ← graph, ← mark) a.cells;
      }
