-- Demand 3: calls one after another hand over the listing end to end, and once one has said ended, all of it.
use mathlib.Core.Path.{◌≡◌, ap, subst, ◌∙◌}
use mathlib.Core.Logic.{inl, inr}
use mathlib.Core.List.{List, [], ◌∷◌}
use Prim.Native.Nat.{ℕ, ◌≤◌}
use native.Mathlib.Omega.{arith}
use lib.ListN.{length, drop, length-drop}
use lib.Seq.{take_all}
use Rattle.refusals.specs.Faults.{Fault, sound}
use Rattle.ways.specs.Records.{cells_of}
use Rattle.ways.specs.Sizes.{record_size}
use Rattle.question.specs.declared.Question.{Question}
use Rattle.question.specs.Asked.{asked_fault}
use Rattle.listing.specs.Portions.{Listing, bookmarked, start_fault}
use Rattle.listing.specs.EndToEnd.{Call, room_in, all_wrote, all_room, EndsRight, Laid}
use Rattle.portion.specs.Listing.{listing_for, LaidEndToEnd, Resumed}
use Rattle.portion.proofs.Instance.{chains-listing}
use Rattle.listing.proofs.LaidEnd.{laid_fresh, laid-behind}
use Rattle.held.proofs.Onward.{held_end_to_end, held_resumed_lem, held_ended_lem}
use Rattle.demands.specs.Demands.{SomeEnded, InPortions, DemandThree}

-- where nothing is left there were no more
none_left : (n : ℕ) (L : List (List ℕ)) → drop n L ≡ [] → length L ≤ n
none_left n L e = omega (arith, length-drop n L, ap length e)

-- once one call says ended, the rooms together hold what was left
ended_all : (left : List (List ℕ)) (calls : List Call) → EndsRight left calls → SomeEnded calls → length left ≤ all_room calls
ended_all left [] ends some = absurd some
ended_all left (call ∷ calls) ends (inl e) = let h = none_left (room_in call) left (ends.0.0 e) in omega arith
ended_all left (call ∷ calls) ends (inr some) = omega (arith, length-drop (room_in call) left, ended_all (drop (room_in call) left) calls ends.1 some)

laid_whole : {left : List (List ℕ)} {calls : List Call} → Laid left calls → SomeEnded calls → all_wrote calls ≡ cells_of record_size left
laid_whole {left} {calls} laid some = laid.cells ∙ ap (cells_of record_size) (take_all (all_room calls) left (ended_all left calls laid.ends some))

-- of any listing, wherever nothing is found before it
pub in_portions : {first : Fault} {chains : List (List ℕ)} → first ≡ sound → Listing chains → InPortions first chains
in_portions asked is =
    record {
      laid_end_to_end = λ run. (laid_fresh asked is run).cells;
      brings_and_ends = λ run. let laid = laid_fresh asked is run in (laid.brings, laid.ends);
      whole = λ run. laid_whole (laid_fresh asked is run);
      resumed = λ bookmark passing run. laid-behind asked is bookmark passing run;
      whole_rest = laid_whole;
    }

-- and so of the chains
pub demand_three : (file : List ℕ) (q : Question) → asked_fault file q ≡ sound → DemandThree file q
demand_three file q asked =
    record {
      portions = in_portions asked (chains-listing file q asked);
      held = λ {held} {held'} {calls} same unstarted run. subst (λ (x : Question). LaidEndToEnd file x calls) same (held_end_to_end (ap (asked_fault file) same ∙ asked) unstarted run);
      held_resumed = λ {held} {held'} {calls} same started passing run.
          subst (λ (x : Question). Resumed file x held.«record» calls) same
          (held_resumed_lem (ap (asked_fault file) same ∙ asked) started (ap (λ (x : Question). start_fault (listing_for file x) (bookmarked held.«record»)) same ∙ passing) run);
      held_ended = λ moved said run. held_ended_lem moved said run;
    }
