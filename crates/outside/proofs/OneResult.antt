-- One result only: any two results that the promise of an exported function allows are equal, the number and every lent cell. So a held listing
-- that was stored before has the result of today's with undated 1.
use mathlib.Core.Path.{◌≡◌, refl, sym, ap, subst, ◌∙◌}
use mathlib.Core.Bool.{Bool, true, false}
use mathlib.Core.List.{List}
use Prim.Native.Nat.{ℕ}
use native.Mathlib.Omega.{arith}
use lib.ListN.{length}
use Rattle.question.specs.declared.Question.{Question}
use Rattle.listing.specs.Portions.{Start}
use Rattle.refusals.specs.Faults.{Fault}
use Rattle.refusals.specs.Answers.{answer_said, Told}
use Rattle.listing.proofs.OneResult.{portion_one}
use Rattle.held.proofs.OneResult.{held_one}
use Rattle.join.proofs.OneResult.{join_one}
use Rattle.outside.specs.Encoded.{listed_number, CheckNumber, RowNumber, FewestNumber, ListingNumber, JoinNumber}
use Rattle.outside.specs.HeldCells.{held_whole, cells_of_held, MovedCells, HeldNumber, as_today, stored_size}
use Rattle.held.specs.declared.Held.{Held}
use Rattle.held.specs.Holding.{MovedOn}
use Rattle.outside.proofs.HeldCells.{today_long, held_today, cells_today}

pub kin_check_one : (file : List ℕ) {a b : ℕ} → CheckNumber file a → CheckNumber file b → a ≡ b
kin_check_one file one other = one ∙ sym other

pub kin_row_one : (file : List ℕ) (person : ℕ) {a b : ℕ} → RowNumber file person a → RowNumber file person b → a ≡ b
kin_row_one file person one other = one ∙ sym other

pub kin_fewest_one : (file : List ℕ) (q : Question) (person : ℕ) {a b : ℕ} → FewestNumber file q person a → FewestNumber file q person b → a ≡ b
kin_fewest_one file q person one other = one ∙ sym other

-- the same answer gives the same number
same_number : (x y : Told) {a b : ℕ} → x ≡ y → a ≡ listed_number (answer_said x) → b ≡ listed_number (answer_said y) → a ≡ b
same_number x y e one other = one ∙ ap (λ (x : Told). listed_number (answer_said x)) e ∙ sym other

-- a portion of any listing, chains or rings
pub kin_listing_one : {first : Fault} {chains : List (List ℕ)} {start : Start} {out exit other : List ℕ} {a b : ℕ}
    → ListingNumber first chains start out exit a → ListingNumber first chains start out other b → (a ≡ b) × (exit ≡ other)
kin_listing_one p r = let e = portion_one p.portioned r.portioned in (same_number p.answer r.answer e.0 p.answers r.answers, e.1)

pub kin_join_one : {file : List ℕ} {q : Question} {working working₁ working₂ out out₁ out₂ : List ℕ} {a b : ℕ}
    → JoinNumber file q working working₁ out out₁ a → JoinNumber file q working working₂ out out₂ b → (a ≡ b) × (working₁ ≡ working₂) × (out₁ ≡ out₂)
kin_join_one p r = let e = join_one p.joins r.joins in (same_number p.answer r.answer e.0 p.answers r.answers, e.1, e.2)

pub kin_held_one : {file cells cells₁ cells₂ out out₁ out₂ : List ℕ} {a b : ℕ}
    → HeldNumber file cells cells₁ out out₁ a → HeldNumber file cells cells₂ out out₂ b → (a ≡ b) × (cells₁ ≡ cells₂) × (out₁ ≡ out₂)
kin_held_one {cells = cells} {cells₁} {cells₂} {out} {out₁} {out₂} {a} {b} p r = go (held_whole (length cells)) refl
  where
    go : (whole : Bool) → held_whole (length cells) ≡ whole → (a ≡ b) × (cells₁ ≡ cells₂) × (out₁ ≡ out₂)
    go true e =
        let m = p.moved e in
        let n = r.moved e in
        let same = held_one m.moves n.moves in
        (same_number m.answer n.answer same.0 m.answers n.answers, m.keeps ∙ ap (cells_of_held cells) same.1 ∙ sym n.keeps, same.2)
    go false e =
        let m = p.wrong_size e in
        let n = r.wrong_size e in
        (m.0 ∙ sym n.0, m.1 ∙ sym n.1, m.2 ∙ sym n.2)

-- a call on a held listing stored before is a call on today's with undated 1, and leaves the same cells but for that one
module _ {file cells cells' out out' : List ℕ} {number : ℕ} (stored : length cells ≡ stored_size) where
  moved_today : MovedCells file cells cells' out out' number → MovedCells file (as_today cells) (as_today cells') out out' number
  moved_today m =
      record {
        answer = m.answer;
        held = m.held;
        moves = subst (λ (held : Held). MovedOn file held m.held out out' m.answer) (sym (held_today cells stored)) m.moves;
        small = m.small;
        answers = m.answers;
        keeps = ap as_today m.keeps ∙ sym (cells_today cells stored m.held);
      }

  number_today : HeldNumber file cells cells' out out' number → HeldNumber file (as_today cells) (as_today cells') out out' number
  number_today h =
      record {
        wrong_size = λ wrong. let e = subst (λ (size : ℕ). held_whole size ≡ false) (today_long cells stored) wrong in let z : ◌≡◌ {A = ℕ} 0 1 = cc in absurd (omega arith);
        moved = λ whole. moved_today (h.moved (rw stored));
      }

pub stored_as_today : {file cells cells' today out out' other : List ℕ} {a b : ℕ} → length cells ≡ stored_size → HeldNumber file cells cells' out out' a → HeldNumber file (as_today cells) today out other b
    → (b ≡ a) × (today ≡ as_today cells') × (other ≡ out')
stored_as_today stored h t = kin_held_one t (number_today stored h)
