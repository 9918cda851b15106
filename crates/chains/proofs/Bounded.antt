-- How many chains there can be: at most 1,024 ways on from each person, so at most 1,024 to the most hops of them.
use mathlib.Core.Path.{◌≡◌}
use Prim.Native.Nat.{ℕ, ◌^◌, ◌≤◌, ◌<◌}
use native.Mathlib.Omega.{arith}
use native.Mathlib.Nat.{pow-le-pow_right, le_trans, lt_of_le_of_lt}
use mathlib.Core.List.{List}
use lib.Dec.{lit<}
use lib.ListN.{length}
use Rattle.refusals.specs.Faults.{sound}
use Rattle.format.specs.Format.{person_count}
use Rattle.ways.specs.Sizes.{most_hops, most_persons}
use Rattle.ways.proofs.Many.{rising_few, listing_many}
use Rattle.question.specs.declared.Question.{Question}
use Rattle.question.specs.Asked.{asked_fault}
use Rattle.question.specs.Admission.{next}
use Rattle.question.proofs.Answerable.{asked_answerable}
use Rattle.question.proofs.Leads.{next_below, next_rising}
use Rattle.portion.specs.Listing.{listing_for}
use Rattle.text.specs.Decimal.{digit_count}

-- forty digits are enough for the number of chains
pub count_fits : (file : List ℕ) (q : Question) → asked_fault file q ≡ sound → length (listing_for file q) < 10 ^ digit_count
count_fits file q e =
    let a = asked_answerable file q e in
    let few : (p : ℕ) → length (next file q p) ≤ most_persons = λ p. omega (arith, a.few, rising_few (person_count file) 0 (next file q p) (next_rising a.rules q p) (λ y m. (omega arith, next_below a.rules q p m)) (omega (arith, a.few))) in
    let all = listing_many (next file q) most_persons (omega arith) few q.from q.to q.hops in
    let most : most_persons ^ q.hops ≤ most_persons ^ most_hops = pow-le-pow_right (omega arith) a.proper.most in
    lt_of_le_of_lt (le_trans all most) (lit< tt)
