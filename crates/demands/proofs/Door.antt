-- The demands at the C door: a refusal is told by 2^63, and what was put into the number is read off it again.
use mathlib.Core.Path.{◌≡◌, refl, sym, ap, subst, ◌∙◌}
use mathlib.Core.Bool.{Bool, true, false}
use mathlib.Core.List.Memᴰ
use mathlib.Core.List.{List, [], ◌∷◌}
use Prim.Native.Nat.{ℕ, ◌+◌, ◌*◌, ◌-◌, ◌^◌, ◌<◌}
use native.Mathlib.Omega.{arith}
use lib.ListN.{length, drop, length-take, length-drop}
use Rattle.format.specs.Format.{person_count, link_count, feed_count}
use Rattle.checking.specs.Verdict as verdict
use Rattle.refusals.specs.Faults.{Fault, sound, fault, first_of, Numbered}
use Rattle.checking.specs.Checked.{file_fault, file_numbers, checked}
use Rattle.checking.specs.Rows.{view_start, view_end}
use Rattle.refusals.proofs.Faults.{first_both}
use Rattle.refusals.proofs.Numbered.{up_to, up_to_bounds}
use Rattle.format.proofs.Counted.{laid_out_long}
use Rattle.checking.proofs.Passed.{sound_rules, passed_fits}
use Rattle.checking.proofs.Numbered.{file_numbered}
use Rattle.ways.specs.Fewest.{fewest}
use Rattle.ways.specs.Graph.{◌∈◌}
use Rattle.ways.specs.Portions.{last_or}
use Rattle.ways.specs.Records.{record_of, cells_of, written}
use Rattle.ways.specs.Sizes.{record_size}
use Rattle.ways.proofs.Portions.{last_or_in}
use Rattle.ways.proofs.Fewest.{fewest_cap}
use Rattle.question.specs.declared.Question.{Question}
use Rattle.question.specs.Admission.{next}
use Rattle.question.specs.Asked.{person_fault, asked_fault, asked_numbers}
use Rattle.question.proofs.Numbered.{person_numbered}
use Rattle.question.proofs.Refused.{person_proper}
use Rattle.distance.specs.Answers as distance
use Rattle.portion.specs.Listing.{listing_for, portion_fault, portion_numbers, portion_for, ended_for}
use Rattle.listing.specs.Portions.{Start, refusal_of, portion_of, ended_of}
use Rattle.listing.specs.Answers.{PortionOf}
use Rattle.refusals.specs.Answers.{Answer, listed, answer_said, answer_for, Told}
use Rattle.portion.proofs.Instance.{portion_numbered, chains-listing}
use Rattle.rings.specs.Rings.{rings_numbers}
use Rattle.rings.proofs.Instance.{rings_numbered}
use Rattle.listing.proofs.Known.{portion_in_lem, kept}
use Rattle.listing.proofs.Telling.{sound_first}
use Rattle.held.specs.declared.Held.{Held}
use Rattle.held.specs.Holding.{start_of, MovedOn}
use Rattle.join.specs.Lists.{chains_for, join_fault, join_numbers, first_ones, all_fit}
use Rattle.join.proofs.Numbered.{join_numbered}
use Rattle.outside.specs.Encoded.{refusal_number, ended_number, listed_number, Small, CheckNumber, RowNumber, FewestNumber, ListingNumber, JoinNumber}
use Rattle.outside.specs.HeldCells.{held_whole, held_of, cells_of_held, MovedCells, HeldNumber}
use Rattle.outside.specs.TakenApart.{count_in, persons_in, links_in, feeds_in}
use Rattle.refusals.specs.Reasons.{highest}
use Rattle.outside.proofs.Numbered.{ended_few}
use Rattle.outside.proofs.HeldCells.{whole_sizes, held_kept, moved_to, held_back}
use Rattle.outside.proofs.OneResult.{stored_as_today}
use Rattle.outside.proofs.TakenApart.{refusal_apart, listed_apart, counts_apart}
use Rattle.demands.specs.Paths.{FewestFrom}
use Rattle.demands.specs.Door.{Tells, NothingLent, Listed, size_fault, held_fault, AtTheDoor}
use Rattle.demands.proofs.Ending.{view_by}
use Rattle.demands.proofs.Fewest.{fewest_from}

-- what a number tells by the first fault
tells : (first : Fault) (numbers : List ℕ) {answer : ℕ} {Unchanged Answers : Type 0} → up_to highest numbers ≡ true → Numbered numbers first → (first ≡ sound → (answer < 2 ^ 63) × Answers)
    → ((number place : ℕ) → first ≡ fault number place → (answer ≡ refusal_number number place) × Unchanged) → Tells first numbers answer Unchanged Answers
tells sound numbers few numbered passes fails =
    record {
      refused = (λ h. absurd (let b = (passes refl).0 in omega arith), λ n. absurd (n refl));
      apart = λ number place e. let z : ◌≡◌ {A = ℕ} 0 1 = cc in absurd (omega arith);
      unchanged = λ h. absurd (let b = (passes refl).0 in omega arith);
      answers = λ e. (passes refl).1;
    }
tells (fault r p) numbers few numbered passes fails =
    let told = fails r p refl in
    let parts = refusal_apart r p (omega (arith, up_to_bounds highest numbers few numbered.0)) numbered.1 in
    record {
      refused = (λ h e. let z : ◌≡◌ {A = ℕ} 0 1 = cc in omega arith, λ n. omega (arith, told.0));
      apart = λ number place e. let same : r ≡ number = cc in let there : p ≡ place = cc in (rw told.0 parts.0 ∙ same, rw told.0 parts.1 ∙ there, Memᴰ.cast (sym same) numbered.0);
      unchanged = λ h. told.1;
      answers = λ e. let z : ◌≡◌ {A = ℕ} 0 1 = cc in absurd (omega arith);
    }

kin_check_lem : (file : List ℕ) {answer : ℕ} → CheckNumber file answer
    → Tells (file_fault file) file_numbers answer NothingLent ((persons_in answer ≡ person_count file) × (links_in answer ≡ link_count file) × (feeds_in answer ≡ feed_count file))
unfolding checked
kin_check_lem file {answer} is =
    tells (file_fault file) file_numbers refl (file_numbered file)
    (λ e.
    let fit = passed_fits (sound_rules file e) in
    let told : answer ≡ person_count file + link_count file * 2 ^ 16 + feed_count file * 2 ^ 32 = is ∙ rw e in
    (omega (arith, fit, told), rw told (counts_apart (person_count file) (link_count file) (feed_count file) (omega (arith, fit)) (omega (arith, fit)))))
    (λ number place e. (is ∙ rw e, tt))

-- a row view is a part of a file that has passed, or empty
kin_row_lem : (file : List ℕ) (person : ℕ) {answer : ℕ} → RowNumber file person answer → answer < 2 ^ 63
unfolding checked
kin_row_lem file person is = omega (arith, is, go (file_fault file) refl)
  where
    go : (first : Fault) → file_fault file ≡ first → length (view_by file person first) < 2 ^ 63
    go (fault number place) e = omega arith
    go sound e =
        let rules = sound_rules file e in
        let said = verdict.passed (person_count file) (link_count file) (feed_count file) in
        let start = view_start said file person in
        let fit = passed_fits rules in
        omega (arith, length-take (view_end said file person - start) (drop start file), length-drop start file, laid_out_long file rules.lays, fit)

kin_fewest_lem : (file : List ℕ) (q : Question) (person : ℕ) {answer : ℕ} → FewestNumber file q person answer
    → Tells (first_of (file_fault file) (person_fault (person_count file) q person)) asked_numbers answer NothingLent (FewestFrom file q person answer)
unfolding distance.answered
kin_fewest_lem file q person {answer} is =
    let first = first_of (file_fault file) (person_fault (person_count file) q person) in
    tells first asked_numbers refl (person_numbered file q person)
    (λ e.
    let proper = (person_proper (person_count file) q person (first_both (file_fault file) (person_fault (person_count file) q person) e).1).0 in
    let told : answer ≡ fewest (next file q) q.to q.hops person = is ∙ rw e in
    (omega (arith, told, fewest_cap (next file q) q.to q.hops person, proper.most), rw told (fewest_from file q person)))
    (λ number place e. (is ∙ rw e, tt))

-- a portion of any listing and a join are told alike
listing_tells : (first : Fault) (numbers : List ℕ) (count : ℕ) (ended : Bool) {said : Answer} {answer : ℕ} {Unchanged : Type 0} → up_to highest numbers ≡ true → Numbered numbers first → said ≡ answer_for first count ended → Small said → answer ≡ listed_number said
    → ((number place : ℕ) → first ≡ fault number place → Unchanged) → Tells first numbers answer Unchanged (Listed answer count ended)
listing_tells first numbers count ended {said} {answer} few numbered is small told unchanged =
    tells first numbers few numbered
    (λ e.
    let listing : said ≡ listed count ended = is ∙ rw e in
    let number : answer ≡ count + ended_number ended * 2 ^ 62 = told ∙ rw listing in
    let fits : count < 2 ^ 62 = rw listing at small in
    (omega (arith, number, fits, ended_few ended), rw number (listed_apart count ended fits)))
    (λ number place e. (told ∙ rw (is, e), unchanged number place e))

portion_tells : {first : Fault} {chains : List (List ℕ)} {start : Start} {out out' : List ℕ} {answer : Told} {number : ℕ} {Unchanged : Type 0} (numbers : List ℕ) → up_to highest numbers ≡ true → Numbered numbers (refusal_of first chains start out)
    → PortionOf first chains start out out' answer → Small (answer_said answer) → number ≡ listed_number (answer_said answer)
    → ((r place : ℕ) → refusal_of first chains start out ≡ fault r place → Unchanged)
    → Tells (refusal_of first chains start out) numbers number Unchanged (Listed number (length (portion_of chains start out)) (ended_of chains start out))
portion_tells {first} {chains} {start} {out} numbers few numbered p small told unchanged =
    listing_tells (refusal_of first chains start out) numbers (length (portion_of chains start out)) (ended_of chains start out) few numbered p.answers small told unchanged

-- what is answered for one
kin_listing : {first : Fault} {chains : List (List ℕ)} {start : Start} {out out' : List ℕ} {answer : ℕ} (numbers : List ℕ) → up_to highest numbers ≡ true → Numbered numbers (refusal_of first chains start out) → ListingNumber first chains start out out' answer
    → Tells (refusal_of first chains start out) numbers answer (out' ≡ out) (Listed answer (length (portion_of chains start out)) (ended_of chains start out))
kin_listing numbers few numbered p = portion_tells numbers few numbered p.portioned p.small p.answers (λ number place e. p.portioned.cells ∙ rw e)

kin_join_lem : {file : List ℕ} {q : Question} {working working' out out' : List ℕ} {answer : ℕ} → JoinNumber file q working working' out out' answer
    → Tells (join_fault file q working out) join_numbers answer ((working' ≡ working) × (out' ≡ out)) (Listed answer (length (first_ones (chains_for file q) out)) (all_fit (chains_for file q) out))
kin_join_lem {file} {q} {working} {out = out} j =
    listing_tells (join_fault file q working out) join_numbers (length (first_ones (chains_for file q) out)) (all_fit (chains_for file q) out) refl (join_numbered file q working out) j.joins.answers j.small j.answers
    (λ number place e. (j.joins.shelf ∙ rw e, j.joins.cells ∙ rw e))

-- a call on the cells of a held listing
module _ {file cells cells' out out' : List ℕ} {answer : ℕ} (whole : held_whole (length cells) ≡ true) (m : MovedCells file cells cells' out out' answer) where
  unmoved : m.held ≡ held_of cells → cells' ≡ cells
  unmoved same = m.keeps ∙ ap (cells_of_held cells) same ∙ held_kept cells (whole_sizes (length cells) whole)

  -- a refusal leaves the held listing as it was, and so its cells
  refused_stays : (number place : ℕ) → portion_fault file (held_of cells).question (start_of (held_of cells)) out ≡ fault number place → (cells' ≡ cells) × (out' ≡ out)
  refused_stays number place e = (unmoved (m.moves.keeps ∙ rw e), m.moves.portioned.cells ∙ rw e)

  moved_tells : Tells (portion_fault file (held_of cells).question (start_of (held_of cells)) out) portion_numbers answer ((cells' ≡ cells) × (out' ≡ out))
      (Listed answer (length (portion_for file (held_of cells).question (start_of (held_of cells)) out)) (ended_for file (held_of cells).question (start_of (held_of cells)) out))
  moved_tells = portion_tells portion_numbers refl (portion_numbered file (held_of cells).question (start_of (held_of cells)) out) m.moves.portioned m.small m.answers refused_stays

  -- a portion of no chains leaves them too
  none_stays : count_in answer ≡ 0 → (cells' ≡ cells) × (out' ≡ out)
  unfolding written cells_of
  none_stays zero = go (portion_fault file (held_of cells).question (start_of (held_of cells)) out) refl (portion_for file (held_of cells).question (start_of (held_of cells)) out) refl
    where
      go : (f : Fault) → portion_fault file (held_of cells).question (start_of (held_of cells)) out ≡ f → (P : List (List ℕ)) → portion_for file (held_of cells).question (start_of (held_of cells)) out ≡ P → (cells' ≡ cells) × (out' ≡ out)
      go (fault number place) e P i = refused_stays number place e
      go sound e [] i = (unmoved (m.moves.keeps ∙ rw (e, i)), m.moves.portioned.cells ∙ rw (e, i))
      go sound e (c ∷ P) i = absurd (omega (arith, zero, (moved_tells.answers e).0, ap length i))

  -- whichever way it went: no chains, or some, of which the last is kept
  stays_or_moves : (f : Fault) → portion_fault file (held_of cells).question (start_of (held_of cells)) out ≡ f → (P : List (List ℕ)) → portion_for file (held_of cells).question (start_of (held_of cells)) out ≡ P → held_of cells' ≡ m.held
  stays_or_moves (fault number place) e P i = let same : m.held ≡ held_of cells = m.moves.keeps ∙ rw e in ap held_of (unmoved same) ∙ sym same
  stays_or_moves sound e [] i = let same : m.held ≡ held_of cells = m.moves.keeps ∙ rw (e, i) in ap held_of (unmoved same) ∙ sym same
  stays_or_moves sound e (c ∷ P) i =
      let q = (held_of cells).question in
      let start = start_of (held_of cells) in
      let last = record_of record_size (last_or c P) in
      let inside = portion_in_lem (listing_for file q) start out (subst (λ (l : List (List ℕ)). last_or c P ∈ l) (sym i) (last_or_in c P)) in
      let ten = (kept (chains-listing file q (sound_first (asked_fault file q) (listing_for file q) start out e).0) (last_or c P) inside).whole in
      let moved : m.held ≡ moved_to cells (whole_sizes (length cells) whole) last = m.moves.keeps ∙ rw (e, i) in
      ap held_of (m.keeps ∙ ap (cells_of_held cells) moved) ∙ held_back cells (whole_sizes (length cells) whole) last ten ∙ sym moved

  moves_on : MovedOn file (held_of cells) (held_of cells') out out' m.answer
  moves_on =
      let same = stays_or_moves (portion_fault file (held_of cells).question (start_of (held_of cells)) out) refl (portion_for file (held_of cells).question (start_of (held_of cells)) out) refl in
      subst (λ (h : Held). MovedOn file (held_of cells) h out out' m.answer) (sym same) m.moves

-- one number more, where a wrong size counts too
tells_more : {first : Fault} {numbers : List ℕ} {answer : ℕ} {Unchanged Answers : Type 0} (number : ℕ) → Tells first numbers answer Unchanged Answers → Tells first (number ∷ numbers) answer Unchanged Answers
tells_more number t =
    record {
      refused = t.refused;
      apart = λ r place e. let a = t.apart r place e in (a.0, a.1, Memᴰ.tail a.2);
      unchanged = t.unchanged;
      answers = t.answers;
    }

module _ {file cells cells' out out' : List ℕ} {answer : ℕ} (h : HeldNumber file cells cells' out out' answer) where
  kin_held_lem : Tells (held_fault file cells out) (0 ∷ portion_numbers) answer ((cells' ≡ cells) × (out' ≡ out))
      (Listed answer (length (portion_for file (held_of cells).question (start_of (held_of cells)) out)) (ended_for file (held_of cells).question (start_of (held_of cells)) out))
  kin_held_lem = go (held_whole (length cells)) refl
    where
      go : (whole : Bool) → held_whole (length cells) ≡ whole
          → Tells (size_fault whole (portion_fault file (held_of cells).question (start_of (held_of cells)) out)) (0 ∷ portion_numbers) answer ((cells' ≡ cells) × (out' ≡ out))
          (Listed answer (length (portion_for file (held_of cells).question (start_of (held_of cells)) out)) (ended_for file (held_of cells).question (start_of (held_of cells)) out))
      go true e = tells_more 0 (moved_tells e (h.moved e))
      go false e =
          let w = h.wrong_size e in
          tells (size_fault false (portion_fault file (held_of cells).question (start_of (held_of cells)) out)) (0 ∷ portion_numbers) refl (Memᴰ.head refl, omega arith) (λ i. let z : ◌≡◌ {A = ℕ} 0 1 = cc in absurd (omega arith))
          (λ number place i. let zero : 0 ≡ number = cc in let none : 0 ≡ place = cc in (omega (arith, w.0), (w.1, w.2)))

  kin_held_stays_lem : count_in answer ≡ 0 → (cells' ≡ cells) × (out' ≡ out)
  kin_held_stays_lem zero = go (held_whole (length cells)) refl
    where
      go : (whole : Bool) → held_whole (length cells) ≡ whole → (cells' ≡ cells) × (out' ≡ out)
      go true e = none_stays e (h.moved e) zero
      go false e = let w = h.wrong_size e in (w.1, w.2)

  kin_held_moves_lem : held_whole (length cells) ≡ true → (said : Told) × MovedOn file (held_of cells) (held_of cells') out out' said × (answer ≡ listed_number (answer_said said))
  kin_held_moves_lem whole = let m = h.moved whole in (m.answer, moves_on whole m, m.answers)

pub at_the_door : AtTheDoor
at_the_door =
    record {
      kin_check = kin_check_lem;
      kin_row = kin_row_lem;
      kin_fewest = kin_fewest_lem;
      kin_portion = λ file q {start} {out} p. kin_listing portion_numbers refl (portion_numbered file q start out) p;
      kin_rings = λ file q {start} {out} p. kin_listing rings_numbers refl (rings_numbered file q start out) p;
      kin_held = kin_held_lem;
      kin_held_moves = kin_held_moves_lem;
      kin_held_stored = stored_as_today;
      kin_held_stays = kin_held_stays_lem;
      kin_join = kin_join_lem;
    }
