-- Calls one after another: each starts behind the last record that was handed over, so the listing comes end to end, and then nothing more.
use mathlib.Core.Path.{◌≡◌, refl, sym, subst, ◌∙◌}
use mathlib.Core.Bool.{Bool, true}
use mathlib.Core.List.{List, [], ◌∷◌}
use Prim.Native.Nat.{ℕ, ◌≤◌}
use native.Mathlib.Omega.{arith}
use lib.ListN.{length}
use lib.Seq.{take-nil}
use borrow.Author.Tests.{le-leb}
use Rattle.refusals.specs.Faults.{Fault, sound}
use Rattle.refusals.specs.Answers.{Told, Answer, listed, refused, answer_said}
use Rattle.ways.specs.Graph.{◌∈◌}
use Rattle.ways.specs.Portions.{after, last_or}
use Rattle.ways.specs.Records.{room_of, written, cells_of}
use Rattle.ways.specs.Sizes.{record_size}
use Rattle.ways.proofs.Portions.{last_or_in, ended_iff}
use Rattle.listing.specs.Portions.{Listing, Start, starts_after, start_fault, refusal_of, portion_of}
use Rattle.listing.specs.EndToEnd.{Call, Run, done, call, count_of, start_behind}
use Rattle.listing.specs.Onward.{start_after, MovesOn, Calls, rests, moves, refusal, Quiet}
use Rattle.listing.proofs.Known.{portion_in_lem, passes, kept}
use Rattle.listing.proofs.Telling.{sound_first, listed_sound, listed_first, listed_count, listed_ended, listed_last, refused_fault}

-- where there is no fault before the portion, the chains are a listing
module _ {first : Fault} {chains : List (List ℕ)} (is : first ≡ sound → Listing chains) where
  module _ {start start' : Start} {out out' : List ℕ} {answer : Told} (m : MovesOn first chains start start' out out' answer) where
    -- a refusal leaves the start as it was
    refused_stays : {number place : ℕ} → answer_said answer ≡ refused number place → start' ≡ start
    refused_stays said = m.keeps ∙ rw (refused_fault m.portioned said)

    -- a portion moves it on to the last chain
    listed_moves : {count : ℕ} {ended : Bool} → answer_said answer ≡ listed count ended → start' ≡ start_after (portion_of chains start out) start
    listed_moves said = m.keeps ∙ rw (listed_sound m.portioned said)

    -- the next call starts where a portion behind the last record starts
    starts_behind : start' ≡ start_behind start (count_of (answer_said answer)) out'
    starts_behind = go (answer_said answer) refl
      where
        some : (count : ℕ) (ended : Bool) (said : answer_said answer ≡ listed count ended) (P : List (List ℕ)) → portion_of chains start out ≡ P → count ≡ length P → start' ≡ start_after P start → start' ≡ start_behind start count out'
        some count ended said [] p n k = rw (k, n)
        some count ended said (c ∷ P) p n k = rw (k, ← listed_last m.portioned said (is (listed_first m.portioned said)) c P p, n)

        go : (a : Answer) → answer_said answer ≡ a → start' ≡ start_behind start (count_of a) out'
        go (listed count ended) said = some count ended said (portion_of chains start out) refl (listed_count m.portioned said) (listed_moves said)
        go (refused number place) said = refused_stays said

  -- the calls are a run of portions, each from the last record written
  pub follows : {start start' : Start} {calls : List Call} → Calls first chains start calls start' → Run first chains start calls
  follows rests = done
  follows (moves {calls = calls} m h r) = call m.portioned h (subst (λ (s : Start). Run first chains s calls) (starts_behind m) (follows r))
  follows (refusal {calls = calls} m said r) = subst (λ (s : Start). Run first chains s calls) (refused_stays m said) (follows r)

  -- a start behind which no chain of the listing comes
  record AtEnd (start : Start) : Type 0 where
    none : first ≡ sound
    good : start_fault chains start ≡ sound
    over : after (starts_after start) chains ≡ []

  -- there a call with room for a record answers 0 chains and ended, and changes nothing
  end_stays : {start start' : Start} {out out' : List ℕ} {answer : Told} → AtEnd start → MovesOn first chains start start' out out' answer → record_size ≤ length out
      → (start' ≡ start) × (answer_said answer ≡ listed 0 true) × (out' ≡ out)
  unfolding written cells_of
  end_stays {start} {out = out} s m h =
      let room = room_of record_size (length out) in
      let passing : refusal_of first chains start out ≡ sound = passes chains s.none start out s.good h in
      let empty : portion_of chains start out ≡ [] = rw s.over (take-nil room) in
      (m.keeps ∙ rw (passing, empty), m.portioned.answers ∙ rw (passing, empty, s.over, le-leb 0 room (omega arith)), m.portioned.cells ∙ rw (passing, empty))

  end_quiet : {start start' : Start} {calls : List Call} → AtEnd start → Calls first chains start calls start' → Quiet calls
  end_quiet s rests = tt
  end_quiet s (moves m h r) =
      let stays = end_stays s m h in
      (stays.1, stays.2, end_quiet (subst AtEnd (sym stays.0) s) r)
  end_quiet s (refusal m said r) = end_quiet (subst AtEnd (sym (refused_stays m said)) s) r

  -- a call that answers ended leads there
  module _ {start start' : Start} {out out' : List ℕ} {answer : Told} {count : ℕ} (m : MovesOn first chains start start' out out' answer) (said : answer_said answer ≡ listed count true) where
    ended_leads : AtEnd start'
    ended_leads = go (portion_of chains start out) refl (listed_moves m said) over
      where
        passed : (first ≡ sound) × (start_fault chains start ≡ sound)
        passed = sound_first first chains start out (listed_sound m.portioned said)

        over : after (last_or (starts_after start) (portion_of chains start out)) chains ≡ []
        over = (ended_iff chains (is passed.0).rises (room_of record_size (length out)) (starts_after start)).0 (sym (listed_ended m.portioned said))

        go : (P : List (List ℕ)) → portion_of chains start out ≡ P → start' ≡ start_after P start → after (last_or (starts_after start) P) chains ≡ [] → AtEnd start'
        go [] e k n = subst AtEnd (sym k) (record { none = passed.0; good = passed.1; over = n })
        go (c ∷ P) e k n =
            let last = last_or c P in
            let inside = subst (λ (l : List (List ℕ)). last ∈ l) (sym e) (last_or_in c P) in
            let bookmark = kept (is passed.0) last (portion_in_lem chains start out inside) in
            subst AtEnd (sym k) (record { none = passed.0; good = bookmark.passing; over = rw bookmark.mark n })

  -- and then for ever: once a call has answered ended, every later one answers 0 chains and ended
  pub ended_quiet : {start start' start'' : Start} {out out' : List ℕ} {answer : Told} {count : ℕ} {calls : List Call} → MovesOn first chains start start' out out' answer → answer_said answer ≡ listed count true
      → Calls first chains start' calls start'' → Quiet calls
  ended_quiet m said run = end_quiet (ended_leads m said) run
