-- The promises of the two public operations, one predicate each. Definitions only.
use Rattle.std.specs.Prelude.{◌≡◌, List, ℕ, ◌+◌, Result, Ok, Err}
use Rattle.std.specs.Borrow.{Bor}
use Rattle.checking.specs.Verdict.{Verdict, passed, refused}
use Rattle.checking.specs.Checked.{checked}
use Rattle.checking.specs.Rows.{view_start, row_view}
use Rattle.refusals.specs.Reasons.{number_of}
use Rattle.refusals.specs.declared.Refusal.{Refusal}
use Rattle.format.specs.declared.layout.Counts.{Counts}

-- what the code's answer says, in the customer's numbers
abbrev pub verdict_said : Result Counts Refusal → Verdict
verdict_said (Ok counts) = passed counts.persons counts.links counts.feeds
verdict_said (Err refusal) = refused (number_of refusal.reason) refusal.place

-- check: the answer is the verdict on the file
abbrev pub Checks : List ℕ → Result Counts Refusal → Type 0
Checks file answer = verdict_said answer ≡ checked file

-- row view: its bytes are the person's part of the file, and it lies in the lent file where that part stands
pub record Views (file : Bor (List ℕ)) (person : ℕ) (view : Bor (List ℕ)) : Type 0 where
  pub bytes : view.now ≡ row_view file.now person
  pub lies : view.ref_ptr ≡ (file.ref_ptr.0, view_start (checked file.now) file.now person + file.ref_ptr.1)
