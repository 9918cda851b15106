-- Refusal numbers and counts are small enough for their places in 64 bits.
use mathlib.Core.Path.{◌≡◌, refl, sym, subst}
use mathlib.Core.Bool.{Bool, true, false}
use mathlib.Core.List.{List}
use Prim.Native.Nat.{ℕ, ◌^◌, ◌<◌, ◌≤◌}
use native.Mathlib.Omega.{arith}
use lib.ListN.{length, length-take}
use mir.Val.{bool_byte}
use Rattle.refusals.specs.Faults.{Fault, sound, fault, Numbered}
use Rattle.ways.specs.Portions.{after}
use Rattle.ways.specs.Records.{room_of}
use Rattle.question.specs.declared.Question.{Question}
use Rattle.ways.specs.Sizes.{record_size}
use Rattle.question.specs.Asked.{asked_fault, rings_asked_fault}
use Rattle.refusals.specs.Reasons.{highest}
use Rattle.portion.specs.Listing.{listing_for, portion_numbers, Portioned}
use Rattle.rings.specs.Rings.{rings_for, rings_numbers, RingsPortioned}
use Rattle.listing.specs.Portions.{Start, starts_after, refusal_of, portion_of, ended_of}
use Rattle.listing.specs.Answers.{PortionOf}
use Rattle.refusals.specs.Answers.{answer_said, answer_for, Told}
use Rattle.refusals.proofs.Numbered.{up_to, up_to_bounds}
use Rattle.portion.proofs.Instance.{portion_numbered}
use Rattle.rings.proofs.Instance.{rings_numbered}
use Rattle.join.specs.Lists as lists
use Rattle.join.specs.Answers.{Joins}
use Rattle.join.proofs.Numbered.{join_numbered}
use Rattle.outside.specs.Encoded.{Small, ended_number, ListingNumber}

-- ended as a number
pub ended_byte : (ended : Bool) → bool_byte ended ≡ ended_number ended
ended_byte true = refl
ended_byte false = refl

pub ended_few : (ended : Bool) → ended_number ended ≤ 1
ended_few true = omega arith
ended_few false = omega arith

-- an answer has room in 64 bits if its numbers have
answer_small : (numbers : List ℕ) → up_to highest numbers ≡ true → (f : Fault) (n : ℕ) (ended : Bool) → Numbered numbers f → n < 2 ^ 62 → Small (answer_for f n ended)
answer_small numbers few sound n ended i h = h
answer_small numbers few (fault number place) n ended i h = (omega (arith, up_to_bounds highest numbers few i.0), i.1)

-- a portion of any listing; of the chains, and of the rings
listing_small : (numbers : List ℕ) → up_to highest numbers ≡ true → (first : Fault) (chains : List (List ℕ)) {start : Start} {out out' : List ℕ} {answer : Told} → Numbered numbers (refusal_of first chains start out) → PortionOf first chains start out out' answer → length out < 2 ^ 62
    → Small (answer_said answer)
listing_small numbers bounded first chains {start} {out} numbered p h =
    let few : length (portion_of chains start out) < 2 ^ 62 = omega (arith, length-take (room_of record_size (length out)) (after (starts_after start) chains)) in
    subst Small (sym p.answers) (answer_small numbers bounded (refusal_of first chains start out) (length (portion_of chains start out)) (ended_of chains start out) numbered few)

pub portion_small : (file : List ℕ) (q : Question) {start : Start} {out out' : List ℕ} {answer : Told} → Portioned file q start out out' answer → length out < 2 ^ 62 → Small (answer_said answer)
portion_small file q {start} {out} p h = listing_small portion_numbers refl (asked_fault file q) (listing_for file q) (portion_numbered file q start out) p h

pub rings_small : (file : List ℕ) (q : Question) {start : Start} {out out' : List ℕ} {answer : Told} → RingsPortioned file q start out out' answer → length out < 2 ^ 62 → Small (answer_said answer)
rings_small file q {start} {out} p h = listing_small rings_numbers refl (rings_asked_fault file q) (rings_for file q) (rings_numbered file q start out) p h

pub join_small : (file : List ℕ) (q : Question) {working working' out out' : List ℕ} {answer : Told} → Joins file q working working' out out' answer → length out < 2 ^ 62 → Small (answer_said answer)
join_small file q {working} {out = out} p h =
    let few : length (lists.first_ones (lists.chains_for file q) out) < 2 ^ 62 = omega (arith, length-take (room_of record_size (length out)) (lists.chains_for file q)) in
    subst Small (sym p.answers) (answer_small lists.join_numbers refl (lists.join_fault file q working out) (length (lists.first_ones (lists.chains_for file q) out)) (lists.all_fit (lists.chains_for file q) out) (join_numbered file q working out) few)

-- what is told of a question is told of the same question
pub same_asked : (first : Question → Fault) (chains : Question → List (List ℕ)) {q r : Question} → q ≡ r → {start : Start} {out out' : List ℕ} {number : ℕ} → ListingNumber (first q) (chains q) start out out' number → ListingNumber (first r) (chains r) start out out' number
same_asked first chains e {start} {out} {out'} {number} told = subst (λ (q : Question). ListingNumber (first q) (chains q) start out out' number) e told
