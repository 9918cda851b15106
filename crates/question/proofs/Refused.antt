-- What the refusals of a question say: the ends decide before all else, and of a question that passed its numbers are known.
use mathlib.Core.Path.{◌≡◌, refl}
use mathlib.Core.Logic.{◌≢◌}
use mathlib.Core.Bool.{Bool, true, false, not}
use Prim.Native.Nat.{ℕ, ◌<◌, ◌≤◌}
use lib.Dec.{eqb, ltb}
use borrow.Author.Tests.{ltb-true, eqb-true, eqb-false, not-true}
use Rattle.ways.specs.Sizes.{most_hops}
use Rattle.refusals.specs.Faults.{Fault, sound, unless, first_of}
use Rattle.refusals.proofs.Faults.{unless_none, first_both}
use Rattle.format.specs.Numbers.{within}
use Rattle.format.proofs.Counted.{within_facts}
use Rattle.question.specs.Asked.{ends_fault, pair_fault, terms_fault, rest_fault, question_fault, person_fault}
use Rattle.question.specs.declared.Question.{Question}
use Rattle.question.specs.declared.Wanted.{Wanted}
use Rattle.question.specs.declared.Wanted as code

-- the ends are looked at before all else
pub ends_first : (n : ℕ) (q : Question) (after : Fault) → ends_fault n q after ≡ first_of (ends_fault n q sound) after
ends_first n q after = go (ltb q.from n) (ltb q.to n)
  where
    go : (from to : Bool) → unless from 10 0 (unless to 10 1 after) ≡ first_of (unless from 10 0 (unless to 10 1 sound)) after
    go true true = refl
    go true false = refl
    go false to = refl

-- what later rooms know of a question that passed, whatever is wanted
pub record Proper (n : ℕ) (q : Question) : Type 0 where
  pub from : q.from < n
  pub to : q.to < n
  pub some : 1 ≤ q.hops
  pub most : q.hops ≤ most_hops

-- what is looked at behind the ends: two persons for chains, one for rings, and then the terms
pair_terms : (wanted : Wanted) (q : Question) → rest_fault wanted q ≡ sound → (pair_fault wanted q ≡ sound) × (terms_fault q ≡ sound)
unfolding rest_fault
pair_terms wanted q e = first_both (pair_fault wanted q) (terms_fault q) e

proper : (n : ℕ) (q : Question) → ltb q.from n ≡ true → ltb q.to n ≡ true → terms_fault q ≡ sound → Proper n q
unfolding terms_fault
proper n q from to terms =
    let twelve = unless_none (within 1 most_hops q.hops) 12 0 terms in
    let hops = within_facts 1 most_hops q.hops twelve.0 in
    record {
      from = ltb-true q.from n from;
      to = ltb-true q.to n to;
      some = hops.0;
      most = hops.1;
    }

-- the ends of a question that passed, and what is left to look at
question_ends : (wanted : Wanted) (n : ℕ) (q : Question) → question_fault wanted n q ≡ sound → (ltb q.from n ≡ true) × (ltb q.to n ≡ true) × (rest_fault wanted q ≡ sound)
unfolding question_fault
question_ends wanted n q e =
    let from = unless_none (ltb q.from n) 10 0 e in
    let to = unless_none (ltb q.to n) 10 1 from.1 in
    (from.0, to.0, to.1)

pub question_proper : (wanted : Wanted) (n : ℕ) (q : Question) → question_fault wanted n q ≡ sound → Proper n q
question_proper wanted n q e = let ends = question_ends wanted n q e in proper n q ends.0 ends.1 (pair_terms wanted q ends.2).1

-- From and To of a question for chains are two persons; of one for rings they are one
pub question_differ : (n : ℕ) (q : Question) → question_fault code.TheVariants.Chains n q ≡ sound → q.from ≢ q.to
question_differ n q e =
    let eleven = unless_none (not (eqb q.from q.to)) 11 0 (pair_terms code.TheVariants.Chains q (question_ends code.TheVariants.Chains n q e).2).0 in
    eqb-false q.from q.to (not-true (eqb q.from q.to) eleven.0)

pub question_same : (n : ℕ) (q : Question) → question_fault code.TheVariants.Rings n q ≡ sound → q.from ≡ q.to
question_same n q e =
    let one = unless_none (eqb q.from q.to) 21 0 (pair_terms code.TheVariants.Rings q (question_ends code.TheVariants.Rings n q e).2).0 in
    eqb-true q.from q.to one.0

pub person_proper : (n : ℕ) (q : Question) (person : ℕ) → person_fault n q person ≡ sound → Proper n q × (person < n)
unfolding person_fault
person_proper n q person e =
    let from = unless_none (ltb q.from n) 10 0 e in
    let to = unless_none (ltb q.to n) 10 1 from.1 in
    let extra = unless_none (ltb person n) 10 2 to.1 in
    (proper n q from.0 to.0 (pair_terms code.TheVariants.Chains q extra.1).1, ltb-true person n extra.0)
