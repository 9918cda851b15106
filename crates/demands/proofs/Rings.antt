-- Demands 2 and 3 of the rings: those of the customer's words are the rings over the graph of the admitted links, and these are what is listed.
use mathlib.Core.Path.{◌≡◌, ap, ◌∙◌}
use mathlib.Core.Logic.{◌↔◌}
use mathlib.Core.List.{List, reverse}
use Prim.Native.Nat.{ℕ}
use Rattle.refusals.specs.Faults.{sound}
use Rattle.ways.specs.Graph.{◌∈◌}
use Rattle.ways.specs.Ring.{Ring, rings}
use Rattle.ways.proofs.Rings.{rings_exact, rings_one_hop}
use Rattle.ways.proofs.Directions.{ring_reversed, ring_other}
use Rattle.question.specs.declared.Question.{Question}
use Rattle.question.specs.Asked.{rings_asked_fault}
use Rattle.question.specs.Admission.{next}
use Rattle.rings.specs.Rings.{rings_for}
use Rattle.rings.proofs.Instance.{rings-listing}
use Rattle.demands.specs.Paths.{Reached, RingPath}
use Rattle.demands.specs.Demands.{RingsAsSaid}
use Rattle.demands.proofs.Paths.{reached_linked, linked_reached, holds_just}
use Rattle.demands.proofs.Laid.{in_portions}

module _ (file : List ℕ) (q : Question) where
  path_ring : (c : List ℕ) → RingPath file q c → Ring (next file q) q.from q.hops c
  path_ring c r = record { first = r.first; last = r.last; linked = reached_linked file q c r.reached; apart = r.apart; once = r.different; some = r.some; few = r.few }

  ring_path : (c : List ℕ) → Ring (next file q) q.from q.hops c → RingPath file q c
  ring_path c h = record { some = h.some; few = h.few; first = h.first; last = h.last; apart = h.apart; different = h.once; reached = linked_reached file q c h.linked }

  is_ring : (c : List ℕ) → c ∈ rings_for file q ↔ Ring (next file q) q.from q.hops c
  is_ring = rings_exact (next file q) q.from q.hops

  other_direction_lem : (c : List ℕ) → c ∈ rings_for file q → Reached file q (reverse c) → reverse c ∈ rings_for file q
  other_direction_lem c m back = (is_ring (reverse c)).1 (ring_reversed c ((is_ring c).0 m) (reached_linked file q (reverse c) back))

  pub rings_as_said : rings_asked_fault file q ≡ sound → RingsAsSaid file q
  rings_as_said asked =
      let is = rings-listing file q asked in
      record {
        every_ring = holds_just asked is (λ c. (λ m. ring_path c ((is_ring c).0 m), λ r. (is_ring c).1 (path_ring c r)));
        portions = in_portions asked is;
        one_hop = λ e. ap (rings (next file q) q.from) e ∙ rings_one_hop (next file q) q.from;
        other_direction = other_direction_lem;
        two_rings = λ c m three. ring_other c ((is_ring c).0 m) three;
      }
