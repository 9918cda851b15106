-- Calls laid end to end: any run of calls gives the listing, from a fresh start or from a bookmark.
use mathlib.Core.Path.{◌≡◌, refl, sym, ap, ap₂, subst, ◌∙◌}
use mathlib.Core.Logic.{◌≢◌}
use mathlib.Core.List.{List, [], ◌∷◌, ◌++◌}
use Prim.Native.Nat.{ℕ, ◌*◌, ◌≤◌}
use native.Mathlib.Omega.{arith}
use lib.ListN.{length, take, drop}
use lib.Seq.{take_at, take-add}
use Rattle.refusals.specs.Faults.{Fault, sound}
use Rattle.refusals.specs.Answers.{Told, listed, answer_said}
use Rattle.refusals.proofs.Faults.{unless_none}
use Rattle.ways.specs.Graph.{◌∈◌}
use Rattle.ways.specs.Portions.{after, last_or}
use Rattle.ways.specs.Records.{chain_of, cells_of, written, is_record_in}
use Rattle.ways.specs.Sizes.{record_size}
use Rattle.ways.proofs.Portions.{after-portion, ended_iff, portion_empty}
use Rattle.ways.proofs.After.{after-part}
use Rattle.ways.proofs.Records.{length-cells_of, cells_of_append, is_record_in_iff}
use Rattle.listing.specs.Portions.{Listing, Start, fresh, bookmarked, starts_after, start_fault, refusal_of, portion_of, ended_of}
use Rattle.listing.specs.Answers.{PortionOf}
use Rattle.listing.specs.EndToEnd.{Call, count_of, says_ended, start_behind, Run, done, call, all_room, room_in, Laid, ResumedIn}
use Rattle.listing.proofs.Known.{portion_in_lem, fresh_all, passes, last_kept}

module _ {first : Fault} {chains : List (List ℕ)} (none_first : first ≡ sound) (is : Listing chains) where
  -- what a call that is not refused says and writes
  module _ {start : Start} {out exit : List ℕ} {answer : Told} (p : PortionOf first chains start out exit answer) (none : refusal_of first chains start out ≡ sound) where
    said : answer_said answer ≡ listed (length (portion_of chains start out)) (ended_of chains start out)
    said = p.answers ∙ rw none

    exits : exit ≡ written record_size (portion_of chains start out) out
    exits = p.cells ∙ rw none

    wrote_cells : take (count_of (answer_said answer) * record_size) exit ≡ cells_of record_size (portion_of chains start out)
    unfolding written
    wrote_cells = rw (said, exits) (take_at (cells_of record_size (portion_of chains start out)) (drop (length (portion_of chains start out) * record_size) out) (length (portion_of chains start out) * record_size) (length-cells_of record_size (portion_of chains start out) (λ c m. is.fits c (portion_in_lem chains start out m))))

  -- the next start is behind the last chain written
  record Behind (start : Start) (b : List ℕ) : Type 0 where
    mark : starts_after start ≡ b
    passing : start_fault chains start ≡ sound

  behind : (start : Start) (P : List (List ℕ)) (rest : List ℕ) → start_fault chains start ≡ sound → ((c : List ℕ) → c ∈ P → c ∈ chains)
      → Behind (start_behind start (length P) (cells_of record_size P ++ rest)) (last_or (starts_after start) P)
  behind start [] rest s inside = record { mark = refl; passing = s }
  behind start (c ∷ P) rest s inside = let k = last_kept is (starts_after start) (c ∷ P) rest (omega arith) inside in record { mark = k.mark; passing = k.passing }

  at_least_one : (P : List (List ℕ)) → P ≢ [] → 1 ≤ length P
  at_least_one [] some = absurd (some refl)
  at_least_one (c ∷ P) some = omega arith

  -- what comes after the start is left when the run starts
  run_laid : (calls : List Call) (start : Start) → start_fault chains start ≡ sound → Run first chains start calls → Laid (after (starts_after start) chains) calls
  unfolding cells_of written
  run_laid [] start s done = record { cells = refl; brings = tt; ends = tt }
  run_laid (c ∷ calls) start s (call p h r) =
      let left = after (starts_after start) chains in
      let P = portion_of chains start c.out in
      let none = passes chains none_first start c.out s h in
      let tells = said p none in
      let on = behind start P (drop (length P * record_size) c.out) s (λ d m. portion_in_lem chains start c.out m) in
      let next = start_behind start (length P) (cells_of record_size P ++ drop (length P * record_size) c.out) in
      let follows : after (last_or (starts_after start) P) chains ≡ drop (room_in c) left = after-portion chains is.rises (starts_after start) (room_in c) in
      let rest = subst (λ (l : List (List ℕ)). Laid l calls) (ap (λ (b : List ℕ). after b chains) on.mark ∙ follows) (run_laid calls next on.passing (rw (tells, exits p none) at r)) in
      let ended = ended_iff chains is.rises (room_in c) (starts_after start) in
      let one : 1 ≤ room_in c = omega (arith, h) in
      record {
        cells = ap₂ ◌++◌ (wrote_cells p none) rest.cells ∙ sym (cells_of_append record_size P (take (all_room calls) (drop (room_in c) left))) ∙ ap (cells_of record_size) (sym (take-add (room_in c) (all_room calls) left));
        brings = (ap count_of tells, (λ some. rw tells (at_least_one P (λ none. some (portion_empty (room_in c) (starts_after start) chains one none)))), rest.brings);
        ends = ((λ e. sym follows ∙ ended.0 (sym (ap says_ended tells) ∙ e), λ e. ap says_ended tells ∙ ended.1 (follows ∙ e)), rest.ends);
      }

  -- any run of calls from a fresh start
  pub laid_fresh : {calls : List Call} → Run first chains fresh calls → Laid chains calls
  laid_fresh {calls} r = subst (λ (l : List (List ℕ)). Laid l calls) (fresh_all is) (run_laid calls fresh refl r)

  -- and from a bookmark that passes
  pub laid-behind : (bookmark : List ℕ) → start_fault chains (bookmarked bookmark) ≡ sound → {calls : List Call} → Run first chains (bookmarked bookmark) calls → ResumedIn chains bookmark calls
  laid-behind bookmark passing {calls} r =
      let chain = (is_record_in_iff record_size chains bookmark is.fits).0 (unless_none (is_record_in record_size chains bookmark) 17 0 passing).0 in
      let part = after-part (chain_of bookmark) chains is.rises chain.1 in
      record { before = part.0; behind = after (chain_of bookmark) chains; stands = part.1; laid = run_laid calls (bookmarked bookmark) passing r }
