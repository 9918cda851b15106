-- The answered fewest hops are the customer's: the ways of the customer's words are the walks over the graph of the admitted links.
use mathlib.Core.Path.{◌≡◌, refl, sym, ◌∙◌}
use mathlib.Core.List.{List, [], ◌∷◌}
use Prim.Native.Nat.{ℕ, ◌≤◌}
use native.Mathlib.Omega.{arith}
use Rattle.format.specs.Format.{person_count}
use Rattle.refusals.specs.Faults.{Fault, sound, fault, first_of}
use Rattle.checking.specs.Checked.{file_fault}
use Rattle.ways.specs.Chain.{hops}
use Rattle.ways.specs.Fewest.{Reach, fewest}
use Rattle.ways.proofs.Fewest.{fewest_up_to, fewest_end, in_fewest, linked_reach, reach_linked}
use Rattle.question.specs.declared.Question.{Question}
use Rattle.question.specs.Asked.{person_fault}
use Rattle.question.specs.Admission.{next}
use Rattle.distance.specs.Answers as distance
use Rattle.demands.specs.Paths.{WayFrom, FewestFrom}
use Rattle.demands.specs.Demands.{FewestAsSaid}
use Rattle.demands.proofs.Paths.{reached_linked, linked_reached}

module _ (file : List ℕ) (q : Question) (p : ℕ) where
  -- a way reaches To in as many hops as it has
  way_reach : (w : List ℕ) → WayFrom file q p w → Reach (next file q) q.to (hops w) p
  way_reach [] way = absurd way.first
  way_reach (v ∷ w) way = rw (sym way.first) (linked_reach (next file q) q.to v w (reached_linked file q (v ∷ w) way.reached) way.last)

  reach_way : {h : ℕ} → Reach (next file q) q.to h p → (w : List ℕ) × WayFrom file q p w × (hops w ≤ h)
  reach_way r = let walk = reach_linked r in (p ∷ walk.0, record { first = refl; last = walk.2; reached = linked_reached file q (p ∷ walk.0) walk.1 }, walk.3)

  least : (w : List ℕ) → WayFrom file q p w → hops w ≤ q.hops → fewest (next file q) q.to q.hops p ≤ hops w
  least w way few = in_fewest (next file q) q.to q.hops few (way_reach w way)

  pub fewest_from : FewestFrom file q p (fewest (next file q) q.to q.hops p)
  fewest_from =
      let far = fewest_up_to (next file q) q.to q.hops p in
      record {
        most = omega (arith, far.cap);
        way = λ h. let way = reach_way (far.reach h) in (way.0, way.1, omega (arith, way.2, least way.0 way.1 (omega (arith, way.2))));
        least = least;
        to_itself = λ e. fewest_end (next file q) q.to q.hops p e;
      }

-- what was answered where there is no fault
answered-hops : (file : List ℕ) (q : Question) (person d : ℕ) → distance.answered file q person ≡ distance.hops d → d ≡ fewest (next file q) q.to q.hops person
unfolding distance.answered
answered-hops file q person d e = go (first_of (file_fault file) (person_fault (person_count file) q person)) e
  where
    go : (f : Fault) → distance.unless_refused f (fewest (next file q) q.to q.hops person) ≡ distance.hops d → d ≡ fewest (next file q) q.to q.hops person
    go sound e = cc
    go (fault number place) e = let z : ◌≡◌ {A = ℕ} 0 1 = cc in absurd (omega arith)

pub fewest_as_said : FewestAsSaid
fewest_as_said = record { fewest = λ file q person d answer is said. rw (answered-hops file q person d (sym is ∙ said)) (fewest_from file q person) }
