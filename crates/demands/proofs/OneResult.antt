-- One result only, for every public operation: each room has the law that any two results are equal; here is one that its promise allows.
use mathlib.Core.Path.{◌≡◌, refl, ap₂}
use mathlib.Core.Bool.{true}
use mathlib.Core.List.{List}
use Prim.Native.Nat.{ℕ, ◌+◌}
use lib.ListN.{length}
use denote.Ref.{Bor}
use Rattle.checking.specs.Verdict.{verdict}
use Rattle.format.specs.Format.{person_count, link_count, feed_count}
use Rattle.format.specs.declared.layout.Counts.{Counts}
use Rattle.checking.specs.Checked.{checked, file_fault, file_numbers}
use Rattle.checking.specs.Rows.{view_start, row_view}
use Rattle.checking.specs.Answers.{verdict_said}
use Rattle.checking.proofs.Numbered.{file_numbered}
use Rattle.checking.proofs.OneResult.{check_one, row_one}
use Rattle.question.specs.declared.Question.{Question}
use Rattle.distance.specs.Answers as distance
use Rattle.question.proofs.Numbered.{person_numbered}
use Rattle.question.specs.Admission.{next}
use Rattle.ways.specs.Fewest.{fewest}
use Rattle.distance.proofs.OneResult.{fewest_one}
use Rattle.question.specs.Asked.{person_fault, asked_fault, rings_asked_fault, asked_numbers}
use Rattle.portion.specs.Listing.{listing_for, portion_fault, portion_for, portion_numbers}
use Rattle.rings.specs.Rings.{rings_for, rings_numbers}
use Rattle.portion.proofs.Instance.{portion_numbered}
use Rattle.rings.proofs.Instance.{rings_numbered}
use Rattle.listing.specs.Portions.{Start, refusal_of, portion_of, ended_of}
use Rattle.listing.specs.Answers.{PortionOf}
use Rattle.std.specs.Prelude.{Result, Ok, Err}
use Rattle.refusals.specs.declared.Refusal.{Refusal}
use Rattle.refusals.specs.Faults.{Fault, sound, fault, first_of, lent, Numbered}
use Rattle.refusals.proofs.Numbered.{all_pass}
use Rattle.refusals.proofs.Reasons.{has_reason, refusal_there}
use Rattle.refusals.proofs.Answers.{answer_there}
use Rattle.refusals.specs.Answers.{cells_for, Told}
use Rattle.listing.proofs.OneResult.{portion_one}
use Rattle.held.specs.declared.Held.{Held}
use Rattle.held.specs.Holding.{start_of, held_after, MovedOn}
use Rattle.held.proofs.OneResult.{held_one}
use Rattle.join.specs.Lists.{halves_for, chains_for, join_fault, join_numbers, first_ones, all_fit}
use Rattle.join.specs.Answers.{Joins}
use Rattle.join.proofs.OneResult.{join_one}
use Rattle.join.proofs.Numbered.{join_numbered}
use Rattle.demands.specs.OneResult.{JustOne, Viewed, OneResult}

-- two or three things that are equal one by one
same_two : {A B : Type 0} {x y : A × B} → x.0 ≡ y.0 → x.1 ≡ y.1 → x ≡ y
same_two {A} {B} e f = ap₂ (λ (a : A) (b : B). (a, b)) e f

same_three : {A B C : Type 0} {x y : A × B × C} → x.0 ≡ y.0 → x.1 ≡ y.1 → x.2 ≡ y.2 → x ≡ y
same_three {A} {B} {C} e f g = ap₂ (λ (a : A) (r : B × C). (a, r.0, r.1)) e (same_two f g)

-- each answer with a number of the document can be said
verdict_told : (f : Fault) → Numbered file_numbers f → (n m k : ℕ) → (answer : Result Counts Refusal) × (verdict_said answer ≡ verdict f n m k)
verdict_told sound i n m k = (Ok (record { persons = n; links = m; feeds = k }), refl)
verdict_told (fault number place) i n m k = let r = refusal_there file_numbers refl i in (Err r.0, rw (r.1, r.2) refl)

hops_told : (f : Fault) → Numbered asked_numbers f → (h : ℕ) → (answer : Result ℕ Refusal) × (distance.hops_said answer ≡ distance.unless_refused f h)
hops_told sound i h = (Ok h, refl)
hops_told (fault number place) i h = let r = refusal_there asked_numbers refl i in (Err r.0, rw (r.1, r.2) refl)

row_just : (file : Bor (List ℕ)) (person : ℕ) → JustOne (Viewed file person)
row_just file person =
    let at : ℕ × ℕ = (file.ref_ptr.0, view_start (checked file.now) file.now person + file.ref_ptr.1) in
    record {
      some = ((at, row_view file.now person), record { bytes = refl; lies = refl });
      only = λ one other a b. let e = row_one a b in same_two e.1 e.0;
    }

-- a portion of any listing
portion_just : (numbers : List ℕ) → all_pass has_reason numbers ≡ true → (first : Fault) (chains : List (List ℕ)) (start : Start) (out : List ℕ) → Numbered numbers (refusal_of first chains start out) → JustOne {R = Told × List ℕ} (λ r. PortionOf first chains start out r.1 r.0)
portion_just numbers have first chains start out numbered =
    let a = answer_there numbers have (refusal_of first chains start out) numbered (length (portion_of chains start out)) (ended_of chains start out) in
    record {
      some = ((a.0, cells_for (refusal_of first chains start out) (portion_of chains start out) out), record { answers = a.1; cells = refl });
      only = λ one other p r. let e = portion_one p r in same_two e.0 e.1;
    }

held_just : (file : List ℕ) (held : Held) (out : List ℕ) → JustOne {R = Told × Held × List ℕ} (λ r. MovedOn file held r.1 out r.2 r.0)
held_just file held out =
    let p = (portion_just portion_numbers refl (asked_fault file held.question) (listing_for file held.question) (start_of held) out (portion_numbered file held.question (start_of held) out)).some in
    let h = lent (portion_fault file held.question (start_of held) out) (held_after (portion_for file held.question (start_of held) out) held) held in
    record {
      some = ((p.0.0, h, p.0.1), record { portioned = p.1; keeps = refl });
      only = λ one other m n. let e = held_one m n in same_three e.0 e.1 e.2;
    }

join_just : (file : List ℕ) (q : Question) (working out : List ℕ) → JustOne {R = Told × List ℕ × List ℕ} (λ r. Joins file q working r.1 out r.2 r.0)
join_just file q working out =
    let first = join_fault file q working out in
    let a = answer_there join_numbers refl first (join_numbered file q working out) (length (first_ones (chains_for file q) out)) (all_fit (chains_for file q) out) in
    record {
      some = ((a.0, cells_for first (halves_for file q) working, cells_for first (first_ones (chains_for file q) out) out), record { answers = a.1; shelf = refl; cells = refl });
      only = λ one other p r. let e = join_one p r in same_three e.0 e.1 e.2;
    }

pub one_result : OneResult
unfolding checked distance.answered
one_result =
    record {
      check = λ file. record { some = verdict_told (file_fault file) (file_numbered file) (person_count file) (link_count file) (feed_count file); only = λ one other. check_one file };
      row = row_just;
      fewest = λ file q person. record {
        some = hops_told (first_of (file_fault file) (person_fault (person_count file) q person)) (person_numbered file q person) (fewest (next file q) q.to q.hops person);
        only = λ one other. fewest_one file q person;
      };
      portion = λ file q start out. portion_just portion_numbers refl (asked_fault file q) (listing_for file q) start out (portion_numbered file q start out);
      rings = λ file q start out. portion_just rings_numbers refl (rings_asked_fault file q) (rings_for file q) start out (rings_numbered file q start out);
      held = held_just;
      join = join_just;
    }
