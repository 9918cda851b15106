-- A question is refused with one of its numbers, the file's among them.
use mathlib.Core.Path.{refl}
use mathlib.Core.Bool.{not}
use mathlib.Core.List.Memᴰ
use mathlib.Core.List.{List, [], ◌∷◌, ◌++◌}
use Prim.Native.Nat.{ℕ}
use native.Mathlib.Omega.{arith}
use lib.Dec.{eqb, ltb}
use Rattle.ways.specs.Graph.{among}
use Rattle.ways.specs.Sizes.{most_hops}
use Rattle.ways.proofs.Members.{among_true}
use Rattle.format.specs.Numbers.{within}
use Rattle.format.specs.Format.{person_count}
use Rattle.refusals.specs.Faults.{Fault, sound, unless, Numbered}
use Rattle.refusals.proofs.Numbered.{numbered_unless, numbered_more, numbered_first, numbered_both}
use Rattle.checking.specs.Checked.{file_fault, file_numbers}
use Rattle.checking.proofs.Numbered.{file_numbered}
use Rattle.question.specs.declared.Question.{Question}
use Rattle.question.specs.declared.Wanted.{Wanted}
use Rattle.question.specs.declared.Wanted as code
use Rattle.question.specs.Asked.{pair_fault, days_fit, terms_fault, rest_fault, question_fault, person_fault, asked_for, asked_fault, rings_asked_fault, asked_of_fault, own_numbers, asked_numbers, rings_asked_numbers}

-- 11 or 21 is among the numbers of its question
pair_numbered : (wanted : Wanted) (q : Question) → Numbered (own_numbers wanted) (pair_fault wanted q)
unfolding among
pair_numbered code.TheVariants.Chains q =
    let own = own_numbers code.TheVariants.Chains in
    numbered_unless own (not (eqb q.from q.to)) 11 0 sound (among_true 11 own refl, omega arith) tt
pair_numbered code.TheVariants.Rings q =
    let own = own_numbers code.TheVariants.Rings in
    numbered_unless own (eqb q.from q.to) 21 0 sound (among_true 21 own refl, omega arith) tt

-- the numbers of what is looked at behind them
terms : List ℕ
terms = 12 ∷ 13 ∷ 14 ∷ 15 ∷ 20 ∷ []

terms_numbered : (q : Question) → Numbered terms (terms_fault q)
unfolding terms terms_fault among
terms_numbered q =
    numbered_unless terms (within 1 most_hops q.hops) 12 0 thirteen (among_true 12 terms refl, omega arith)
    (numbered_unless terms (within 1 15 q.classes) 13 0 fourteen (among_true 13 terms refl, omega arith)
    (numbered_unless terms (within 1 2 q.meaning) 14 0 fifteen (among_true 14 terms refl, omega arith)
    (numbered_unless terms (days_fit q) 15 0 twenty (among_true 15 terms refl, omega arith)
    (numbered_unless terms (within 0 1 q.undated) 20 0 sound (among_true 20 terms refl, omega arith) tt))))
  where
    twenty : Fault
    twenty = unless (within 0 1 q.undated) 20 0 sound

    fifteen : Fault
    fifteen = unless (days_fit q) 15 0 twenty

    fourteen : Fault
    fourteen = unless (within 1 2 q.meaning) 14 0 fifteen

    thirteen : Fault
    thirteen = unless (within 1 15 q.classes) 13 0 fourteen

rest_numbered : (wanted : Wanted) (q : Question) → Numbered (own_numbers wanted) (rest_fault wanted q)
unfolding rest_fault terms
rest_numbered wanted q =
    numbered_first (own_numbers wanted) (pair_fault wanted q) (terms_fault q) (pair_numbered wanted q)
    (numbered_more terms (own_numbers wanted) (λ x m. Memᴰ.tail (Memᴰ.tail m)) (terms_fault q) (terms_numbered q))

-- From, To, then whatever is looked at after them
ends_numbered : (wanted : Wanted) (n : ℕ) (q : Question) (after : Fault) → Numbered (own_numbers wanted) after → Numbered (own_numbers wanted) (unless (ltb q.from n) 10 0 (unless (ltb q.to n) 10 1 after))
ends_numbered wanted n q after h =
    let own = own_numbers wanted in
    numbered_unless own (ltb q.from n) 10 0 (unless (ltb q.to n) 10 1 after) (Memᴰ.head refl, omega arith) (numbered_unless own (ltb q.to n) 10 1 after (Memᴰ.head refl, omega arith) h)

pub wanted_numbered : (wanted : Wanted) (file : List ℕ) (q : Question) → Numbered (file_numbers ++ own_numbers wanted) (asked_for wanted file q)
unfolding question_fault
wanted_numbered wanted file q =
    numbered_both file_numbers (own_numbers wanted) (file_fault file) (question_fault wanted (person_count file) q) (file_numbered file) (ends_numbered wanted (person_count file) q (rest_fault wanted q) (rest_numbered wanted q))

pub asked_numbered : (file : List ℕ) (q : Question) → Numbered asked_numbers (asked_fault file q)
asked_numbered = wanted_numbered code.TheVariants.Chains

pub rings_asked_numbered : (file : List ℕ) (q : Question) → Numbered rings_asked_numbers (rings_asked_fault file q)
rings_asked_numbered = wanted_numbered code.TheVariants.Rings

pub person_numbered : (file : List ℕ) (q : Question) (person : ℕ) → Numbered asked_numbers (asked_of_fault file q person)
unfolding person_fault
person_numbered file q person =
    let wanted = code.TheVariants.Chains in
    let own = own_numbers wanted in
    numbered_both file_numbers own (file_fault file) (person_fault (person_count file) q person) (file_numbered file)
    (ends_numbered wanted (person_count file) q (unless (ltb person (person_count file)) 10 2 (rest_fault wanted q)) (numbered_unless own (ltb person (person_count file)) 10 2 (rest_fault wanted q) (Memᴰ.head refl, omega arith) (rest_numbered wanted q)))
