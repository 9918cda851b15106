-- The eighth number of a question, in what is answered: with 1 refusals and graph are those of before, and so is all that is made of them; with 0 every
-- hop has a dated link.
use mathlib.Core.Path.{◌≡◌, ◌∙◌}
use mathlib.Core.List.{List, [], ◌∷◌}
use Prim.Native.Nat.{ℕ}
use Rattle.question.specs.declared.Question.{Question}
use Rattle.question.proofs.Undated.{as_before, dated_as_before, admitted_dated}
use Rattle.distance.specs.Answers.{answered}
use Rattle.demands.specs.Paths.{Reached}
use Rattle.demands.specs.Undated.{AnswersAsBefore, DatedHops, UndatedAsSaid}
use Rattle.demands.proofs.Paths.{demand_two}
use Rattle.demands.proofs.Rings.{rings_as_said}

answers_before : (file : List ℕ) (q : Question) → q.undated ≡ 1 → AnswersAsBefore file q
unfolding answered
answers_before file q wants =
    let before = as_before file q wants in
    record {
      fewest = λ person answer is. is ∙ rw (before.asked_of person, before.graph);
      portion = λ p. rw (before.asked, before.graph) at p;
      held = λ same m. (rw (same, before.asked, before.graph) at m.portioned, m.keeps ∙ rw (same, before.asked, before.graph));
      join = λ j. rw (before.asked, before.graph) at j;
    }

-- a chain's hops, where no undated link is admitted
dated_hops : (file : List ℕ) (q : Question) → q.undated ≡ 0 → (c : List ℕ) → Reached file q c → DatedHops file q c
dated_hops file q none [] r = tt
dated_hops file q none (p ∷ []) r = tt
dated_hops file q none (p ∷ v ∷ c) r = ((r.0, admitted_dated file q none r.0.link r.0.admits), dated_hops file q none (v ∷ c) r.1)

pub undated_as_said : UndatedAsSaid
undated_as_said =
    record {
      admits = λ file q wants. (as_before file q wants, answers_before file q wants);
      leaves_out = admitted_dated;
      keeps_dated = dated_as_before;
      dated = λ file q asked none c m. dated_hops file q none c ((demand_two file q asked).listing.once_in_order.2 c m).reached;
      dated_rings = λ file q asked none c m. dated_hops file q none c ((rings_as_said file q asked).every_ring.once_in_order.2 c m).reached;
    }
