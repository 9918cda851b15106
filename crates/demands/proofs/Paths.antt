-- Demand 2: the simple paths of the customer's words are the chains over the graph of the admitted links, and these are what is listed.
use Rattle.refusals.specs.Answers.{Told}
use mathlib.Core.Path.{◌≡◌, refl, ◌∙◌}
use mathlib.Core.Logic.{◌≢◌, ◌↔◌}
use mathlib.Core.List.Memᴰ
use mathlib.Core.List.{List, [], ◌∷◌}
use Prim.Native.Nat.{ℕ, ◌≤◌, ◌<◌}
use native.Mathlib.Omega.{arith}
use lib.ListN.{length}
use borrow.Author.Tests.{le-leb}
use Rattle.format.specs.Format.{person_count}
use Rattle.refusals.specs.Faults.{Fault, sound}
use Rattle.ways.specs.Graph.{◌∈◌}
use Rattle.ways.specs.Chain.{Linked, Chain}
use Rattle.ways.proofs.Listed.{exact}
use Rattle.ways.specs.Order.{Before}
use Rattle.ways.proofs.Rising.{one_list}
use Rattle.ways.proofs.Ordered.{before_asym, rising_once}
use Rattle.ways.proofs.ByHops.{by_hops_iff, by_hops_ordered, by_hops_once}
use Rattle.ways.proofs.Halves.{halves_exact, halves_ordered}
use Rattle.ways.specs.Sizes.{record_size}
use Rattle.question.specs.declared.Question.{Question}
use Rattle.question.specs.Asked.{asked_fault}
use Rattle.question.specs.Admission.{next}
use Rattle.question.proofs.Leads.{next_led, led_next}
use Rattle.portion.specs.Listing.{listing_for}
use Rattle.listing.specs.Portions.{Listing, fresh}
use Rattle.listing.specs.Answers.{PortionOf}
use Rattle.question.proofs.Answerable.{asked_differ}
use Rattle.portion.proofs.Instance.{rows, chains-listing}
use Rattle.listing.proofs.Known.{passes, fresh_all}
use Rattle.join.specs.Lists.{halves_for, join_fault}
use Rattle.demands.specs.Paths.{Reached, SimplePath, HalfPath}
use Rattle.demands.specs.Demands.{Lists, HoldsJust, Fitting, JoinRoute, DemandTwo}

-- a listing of just those that `Is` says, wherever nothing is found before it
pub holds_just : {Is : List ℕ → Type 0} {first : Fault} {chains : List (List ℕ)} → first ≡ sound → Listing chains → ((c : List ℕ) → c ∈ chains ↔ Is c) → HoldsJust Is first chains
holds_just {Is} {first} {chains} asked is just =
    record {
      holds_every = λ c h. (just c).1 h;
      once_in_order = (rising_once chains is.rises, is.rises, λ c m. (just c).0 m);
      no_other = λ L r same. one_list Before (λ a b. before_asym) Is L chains r is.rises same just;
      portion = portion_lists;
    }
  where
    portion_lists : {out out' : List ℕ} {answer : Told} → record_size ≤ length out → PortionOf first chains fresh out out' answer → Lists chains out out' answer
    portion_lists {out} h p =
        let passing = passes chains asked fresh out refl h in
        record { says = p.answers ∙ rw (passing, fresh_all is); cells = p.cells ∙ rw (passing, fresh_all is) }

module _ (file : List ℕ) (q : Question) where
  pub reached_linked : (c : List ℕ) → Reached file q c → Linked (next file q) c
  reached_linked [] r = tt
  reached_linked (p ∷ []) r = tt
  reached_linked (p ∷ v ∷ c) r = (led_next file q p r.0, reached_linked (v ∷ c) r.1)

  pub linked_reached : (c : List ℕ) → Linked (next file q) c → Reached file q c
  linked_reached [] l = tt
  linked_reached (p ∷ []) l = tt
  linked_reached (p ∷ v ∷ c) l = (next_led file q p l.0, linked_reached (v ∷ c) l.1)

  path_chain : (c : List ℕ) → SimplePath file q c → Chain (next file q) q.from q.to q.hops c
  path_chain [] s = absurd s.first
  path_chain (p ∷ c) s =
      record {
        first = s.first;
        last = s.last;
        linked = reached_linked (p ∷ c) s.reached;
        once = s.different;
        some = omega (arith, s.some);
        few = omega (arith, s.few);
      }

  chain_path : (c : List ℕ) → Chain (next file q) q.from q.to q.hops c → SimplePath file q c
  chain_path [] h = absurd h.first
  chain_path (p ∷ c) h =
      record {
        some = omega (arith, h.some);
        few = omega (arith, h.few);
        different = h.once;
        first = h.first;
        last = h.last;
        reached = linked_reached (p ∷ c) h.linked;
      }

  module _ (asked : asked_fault file q ≡ sound) where
    differ : q.from ≢ q.to
    differ = asked_differ file q asked

    is_path : (c : List ℕ) → c ∈ listing_for file q ↔ SimplePath file q c
    is_path c = let both = exact (next file q) q.from q.to q.hops differ c in (λ m. chain_path c (both.0 m), λ h. both.1 (path_chain c h))

    joins_on : {working out : List ℕ} → Fitting file q working out → join_fault file q working out ≡ sound
    joins_on {working} {out} fit = rw (asked, le-leb record_size (length out) fit.room) fit.shelf

    -- only persons of the file have links
    inside : (p v : ℕ) → v ∈ next file q p → p < person_count file
    inside p v m = (next_led file q p m).inside

    is_half : (h : List ℕ) → h ∈ halves_for file q ↔ HalfPath file q h
    is_half h =
        let both = halves_exact (next file q) (person_count file) q.from q.to differ inside q.hops h in (
          (λ m. let half = both.0 m in record { few = half.1; different = half.0.once; last = half.0.last; apart = half.0.apart; reached = linked_reached h half.0.linked }),
          (λ p. both.1 (record { last = p.last; linked = reached_linked h p.reached; once = p.different; apart = p.apart; exactly = refl }, p.few)),
        )

    to_alone_lem : HalfPath file q (q.to ∷ [])
    to_alone_lem = record { few = omega arith; different = (λ m. Memᴰ.not-nil m, tt); last = refl; apart = λ m. differ (Memᴰ.eq_of_singleton m); reached = tt }

    join_route_lem : JoinRoute file q
    join_route_lem =
        record {
          same = by_hops_iff (next file q) q.from q.to q.hops;
          once = by_hops_once (next file q) q.from q.to (rows file q asked) q.hops;
          shortest_first = by_hops_ordered (next file q) q.from q.to (rows file q asked) q.hops;
          all_half_chains = is_half;
          to_alone = (is_half (q.to ∷ [])).1 to_alone_lem;
          halves_written = λ fit j. j.shelf ∙ rw (joins_on fit);
          halves_in_order = halves_ordered (next file q) (person_count file) q.from q.to differ inside q.hops;
          lists = λ fit j. record { says = j.answers ∙ rw (joins_on fit); cells = j.cells ∙ rw (joins_on fit) };
        }

    pub demand_two : DemandTwo file q
    demand_two = record { listing = holds_just asked (chains-listing file q asked) is_path; join_route = join_route_lem }
