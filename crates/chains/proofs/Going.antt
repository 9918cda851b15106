-- Going on by a portion: what was to come is its lines, and what is to come after it.
use mathlib.Core.Path.{◌≡◌, refl, sym, ap, subst, ◌∙◌}
use mathlib.Core.Bool.{Bool, true, false, true≢false}
use mathlib.Core.List.{List, ◌++◌, append_assoc}
use Prim.Native.Nat.{ℕ, ◌+◌, ◌*◌, ◌^◌, ◌≤◌, ◌<◌}
use native.Mathlib.Omega.{arith}
use native.Mathlib.Nat.{lt_of_le_of_lt}
use borrow.Author.Tests.{le-leb, leb-true, leb-false}
use lib.ListN.{length, take, drop, length-take, length-drop, take-append-drop}
use lib.Seq.{take_all, length-take-le}
use Rattle.refusals.specs.Faults.{Fault, sound, fault, first_of}
use Rattle.ways.specs.Portions.{after, last_or}
use Rattle.ways.specs.Records.{cells_of, written, room_of}
use Rattle.ways.specs.Sizes.{record_size}
use Rattle.ways.proofs.Portions.{after-portion}
use Rattle.question.specs.declared.Question.{Question}
use Rattle.question.specs.Asked.{asked_fault}
use Rattle.portion.specs.Listing.{listing_for, portion_fault, portion_for, ended_for, Portioned}
use Rattle.listing.specs.Portions.{Listing, Start, fresh, bookmarked, starts_after, refusal_of}
use Rattle.std.proofs.Common.{Ok, Err}
use Rattle.refusals.specs.declared.Listed.{Listed}
use Rattle.refusals.specs.declared.Refusal.{Refusal}
use Rattle.refusals.specs.Answers.{Told, listed, refused, answer_said, answer_for}
use Rattle.listing.specs.EndToEnd.{last_record}
use Rattle.portion.proofs.Instance.{fresh_chains, chains-listing}
use Rattle.listing.proofs.Known.{Kept, portion_in_lem, last_kept}
use Rattle.listing.proofs.Telling.{listed_first, listed_fits, listed_count, listed_ended, listed_cells, listed_length}
use Rattle.text.specs.Decimal.{worth, digit_count}
use Rattle.text.specs.declared.counts.Counted.{Counted}
use Rattle.text.specs.Lines.{chain_lines, chains_at, end_line, refusal_line, Records}
use Rattle.text.proofs.Lining.{lines_append}
use Rattle.text.proofs.Written.{chains-written, records_written}
use Rattle.chains.specs.Program.{text_for}
use Rattle.chains.specs.Onward.{rest, OnTheWay, WentOn}
use Rattle.chains.proofs.Bounded.{count_fits}

differ : {number place count : ℕ} {ended : Bool} → refused number place ≡ listed count ended → ⊥
differ e = let z : ◌≡◌ {A = ℕ} 0 1 = cc in omega arith

-- what an answer says is told by it
count_same : {m n : ℕ} {a b : Bool} → listed m a ≡ listed n b → m ≡ n
count_same e = cc

ended_same : {m n : ℕ} {a b : Bool} → listed m a ≡ listed n b → a ≡ b
ended_same e = cc

same_count : {cells : List ℕ} {m n : ℕ} {a b : Bool} → listed m a ≡ listed n b → Records cells m → Records cells n
same_count {cells} e r = subst (λ (count : ℕ). Records cells count) (count_same e) r

module _ {file : List ℕ} {q : Question} {start : Start} {counted : Counted} {cells : List ℕ} (k : OnTheWay file q start counted cells) where
  -- on the way a portion is refused only for the file or the question
  way_fault : portion_fault file q start cells ≡ first_of (asked_fault file q) sound
  unfolding refusal_of
  way_fault = rw (le-leb record_size (length cells) k.room, k.passing)

  module _ {cells' : List ℕ} {answer : Told} (p : Portioned file q start cells cells' answer) where
    -- refused: that is all there is to print
    pub way_refused : (start' : Start) (counted' : Counted) {refusal : Refusal} → answer ≡ Err refusal → WentOn file q start (worth counted.digits) start' counted' cells' (answer_said answer)
    way_refused start' counted' {refusal} is = record {
      refuses = λ e. text (asked_fault file q) (sym e ∙ p.answers ∙ rw way_fault);
      lists = λ e. absurd (differ (sym (ap answer_said is) ∙ e));
      ends = λ e. absurd (differ (sym (ap answer_said is) ∙ e));
      kept = λ e. absurd (differ (sym (ap answer_said is) ∙ e));
      goes = λ e. absurd (differ (sym (ap answer_said is) ∙ e));
    }
      where
        text : {r at : ℕ} (f : Fault) → refused r at ≡ answer_for (first_of f sound) (length (portion_for file q start cells)) (ended_for file q start cells) → text_for f (rest file q start) (worth counted.digits) ≡ refusal_line r at
        text sound e = let z : ◌≡◌ {A = ℕ} 0 1 = cc in absurd (omega arith)
        text {r} {at} (fault number place) e = let a : number ≡ r = cc in let b : place ≡ at = cc in rw (a, b)

    module _ {told : Listed} (is : answer ≡ Ok told) where
      said : answer_said answer ≡ listed told.count told.ended
      said = ap answer_said is

      way_asked : asked_fault file q ≡ sound
      way_asked = listed_first p said

      way_listing : Listing (listing_for file q)
      way_listing = chains-listing file q way_asked

      pub way_many : told.count ≡ length (portion_for file q start cells)
      way_many = listed_count p said

      way_cells : cells' ≡ cells_of record_size (portion_for file q start cells) ++ drop (length (portion_for file q start cells) * record_size) cells
      unfolding written
      way_cells = listed_cells p said

      pub way_records : Records cells' told.count
      way_records = rw (way_many, way_cells) (records_written (portion_for file q start cells) (drop (length (portion_for file q start cells) * record_size) cells) (listed_fits p said way_listing))

      way_chains : chains_at cells' 0 told.count ≡ portion_for file q start cells
      way_chains = rw (way_many, way_cells) (chains-written (portion_for file q start cells) (drop (length (portion_for file q start cells) * record_size) cells) (listed_fits p said way_listing))

      -- forty digits are enough
      pub way_counts : worth counted.digits + told.count < 10 ^ digit_count
      way_counts =
          let few = length-take (room_of record_size (length cells)) (rest file q start) in
          lt_of_le_of_lt (omega (arith, way_many, few, k.sum)) (count_fits file q way_asked)

      -- where more follow, the portion fills its room
      way_more : told.ended ≡ false → room_of record_size (length cells) < length (rest file q start)
      way_more e = leb-false (length (rest file q start)) (room_of record_size (length cells)) (sym (listed_ended p said) ∙ e)

      way_full : told.ended ≡ false → length (portion_for file q start cells) ≡ room_of record_size (length cells)
      way_full e = let more = way_more e in length-take-le (room_of record_size (length cells)) (rest file q start) (omega arith)

      -- there is a last one
      pub way_last : told.ended ≡ false → (1 ≤ told.count) × (told.count * record_size ≤ length cells')
      way_last e = (omega (arith, way_many, way_full e, k.room), omega (arith, way_many, way_full e, listed_length p said way_listing))

      module _ {counted' : Counted} (w : worth counted'.digits ≡ worth counted.digits + told.count) where
        -- the last portion
        pub way_ends : (start' : Start) → told.ended ≡ true → WentOn file q start (worth counted.digits) start' counted' cells' (answer_said answer)
        way_ends start' e =
            let room = room_of record_size (length cells) in
            let R = rest file q start in
            let whole : take room R ≡ R = take_all room R (leb-true (length R) room (sym (listed_ended p said) ∙ e)) in
            let all : worth counted'.digits ≡ worth counted.digits + length R = w ∙ ap (λ (n : ℕ). worth counted.digits + n) (way_many ∙ ap length whole) in
            record {
              refuses = λ x. absurd (differ (sym x ∙ said));
              lists = λ x. same_count (sym said ∙ x) way_records;
              ends = λ x. rw (← count_same (sym said ∙ x), way_asked, way_chains, whole, all);
              kept = λ x. absurd (true≢false (sym e ∙ ended_same (sym said ∙ x)));
              goes = λ x. absurd (true≢false (sym e ∙ ended_same (sym said ∙ x)));
            }

        -- any other
        pub way_on : {bookmark' : List ℕ} → told.ended ≡ false → bookmark' ≡ last_record told.count cells' → WentOn file q start (worth counted.digits) (bookmarked bookmark') counted' cells' (answer_said answer)
        way_on {bookmark'} e b =
            let room = room_of record_size (length cells) in
            let R = rest file q start in
            let P = portion_for file q start cells in
            let L = listing_for file q in
            let more = way_more e in
            let full = way_full e in
            let on : Kept L bookmark' (last_or (starts_after start) P) = subst (λ (m : List ℕ). Kept L m (last_or (starts_after start) P)) (sym (b ∙ rw (way_many, way_cells)))
            (last_kept way_listing (starts_after start) P (drop (length P * record_size) cells) (omega (arith, full, k.room)) (λ c m. portion_in_lem L start cells m)) in
            let left : rest file q (bookmarked bookmark') ≡ drop room R = ap (λ (c : List ℕ). after c L) on.mark ∙ after-portion L way_listing.rises (starts_after start) room in
            let short = length-drop room R in
            let same : worth counted'.digits + length (drop room R) ≡ worth counted.digits + length R = omega (arith, w, way_many, full, short) in
            let parts : chain_lines R ≡ chain_lines P ++ chain_lines (drop room R) = ap chain_lines (sym (take-append-drop room R)) ∙ lines_append P (drop room R) in
            record {
              refuses = λ x. absurd (differ (sym x ∙ said));
              lists = λ x. same_count (sym said ∙ x) way_records;
              ends = λ x. absurd (true≢false (sym (ended_same (sym said ∙ x)) ∙ e));
              kept = λ x. ap bookmarked (rw (← count_same (sym said ∙ x)) b);
              goes = λ x. (
                record { room = omega (arith, listed_length p said way_listing, k.room); passing = on.passing; sum = rw left (same ∙ k.sum) },
                rw (← count_same (sym said ∙ x), way_asked, way_chains, left, same) (ap (λ (t : List ℕ). t ++ end_line (worth counted.digits + length R)) parts ∙ append_assoc (chain_lines P) (chain_lines (drop room R)) (end_line (worth counted.digits + length R))),
                omega (arith, count_same (sym said ∙ x), (way_last e).0),
              );
            }

-- ---- the start: everything is to come
pub way_starts : {file : List ℕ} {q : Question} {counted : Counted} {cells : List ℕ} → worth counted.digits ≡ 0 → record_size ≤ length cells → OnTheWay file q fresh counted cells
way_starts {file} {q} w h = record { room = h; passing = refl; sum = omega (arith, w, ap length (fresh_chains file q)) }
