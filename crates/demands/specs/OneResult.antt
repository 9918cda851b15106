-- One result only: what came in fixes the answer and every lent cell, for refusals as for listings. Definitions only.
-- "Every public operation carries a contract that determines the answer and the final contents of each lent cell, for refusals as for
-- listings. A proof shows that any two results allowed by it are equal".
use Rattle.refusals.specs.Answers.{Told}
use Rattle.std.specs.Prelude.{Result, ◌≡◌, List, ℕ}
use Rattle.std.specs.Borrow.{Bor}
use Rattle.checking.specs.Answers.{Checks, Views}
use Rattle.format.specs.declared.layout.Counts.{Counts}
use Rattle.question.specs.declared.Question.{Question}
use Rattle.distance.specs.Answers.{FewestHops}
use Rattle.refusals.specs.declared.Refusal.{Refusal}
use Rattle.listing.specs.Portions.{Start}
use Rattle.portion.specs.Listing.{Portioned}
use Rattle.rings.specs.Rings.{RingsPortioned}
use Rattle.held.specs.declared.Held.{Held}
use Rattle.held.specs.Holding.{MovedOn}
use Rattle.join.specs.Answers.{Joins}

-- a promise allows some result, and any two results that it allows are equal
pub record JustOne {R : Type 0} (Allowed : R → Type 0) : Type 0 where
  pub some : (result : R) × Allowed result
  pub only : (one other : R) → Allowed one → Allowed other → one ≡ other

-- a row view by its address in the lent file and its bytes
abbrev pub Viewed : Bor (List ℕ) → ℕ → (ℕ × ℕ) × List ℕ → Type 0
Viewed file person view = Views file person (record { ref_ptr = view.0; now = view.1 })

pub record OneResult : Type 0 where
  -- check: the answer
  pub check : (file : List ℕ) → JustOne {R = Result Counts Refusal} (Checks file)
  -- row view: the part of the file, where it lies and what it holds
  pub row : (file : Bor (List ℕ)) (person : ℕ) → JustOne (Viewed file person)
  -- fewest hops: the answer
  pub fewest : (file : List ℕ) (q : Question) (person : ℕ) → JustOne {R = Result ℕ Refusal} (FewestHops file q person)
  -- portion: the answer and the output
  pub portion : (file : List ℕ) (q : Question) (start : Start) (out : List ℕ) → JustOne {R = Told × List ℕ} (λ r. Portioned file q start out r.1 r.0)
  -- rings: the answer and the output
  pub rings : (file : List ℕ) (q : Question) (start : Start) (out : List ℕ) → JustOne {R = Told × List ℕ} (λ r. RingsPortioned file q start out r.1 r.0)
  -- held listing: the answer, the held listing and the output
  pub held : (file : List ℕ) (held : Held) (out : List ℕ) → JustOne {R = Told × Held × List ℕ} (λ r. MovedOn file held r.1 out r.2 r.0)
  -- join: the answer, the working cells and the output
  pub join : (file : List ℕ) (q : Question) (working out : List ℕ) → JustOne {R = Told × List ℕ × List ℕ} (λ r. Joins file q working r.1 out r.2 r.0)
