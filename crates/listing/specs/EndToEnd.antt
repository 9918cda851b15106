-- Portions laid end to end: a run of calls, each from the last record written. Definitions only.
use Rattle.std.specs.Prelude.{◌≡◌, ◌≢◌, ◌↔◌, Bool, true, false, List, [], ◌∷◌, ◌++◌, ℕ, zero, suc, ◌+◌, ◌*◌, ◌-◌, ◌≤◌, length, take, drop}
use Rattle.ways.specs.Records.{chain_of, room_of, cells_of}
use Rattle.ways.specs.Sizes.{record_size}
use Rattle.refusals.specs.Faults.{Fault}
use Rattle.listing.specs.Portions.{Start, bookmarked}
use Rattle.listing.specs.Answers.{PortionOf}
use Rattle.refusals.specs.Answers.{Told, Answer, listed, refused, answer_said}

-- one call: the output as it was lent and at exit, and the answer
pub record Call : Type 0 where
  pub out : List ℕ
  pub exit : List ℕ
  pub answer : Told

-- how many chains a call has room for
abbrev pub room_in : Call → ℕ
room_in call = room_of record_size (length call.out)

-- how many chains the answer says were written, and whether it says ended
abbrev pub count_of : Answer → ℕ
count_of (listed count ended) = count
count_of (refused number place) = 0

abbrev pub says_ended : Answer → Bool
says_ended (listed count ended) = ended
says_ended (refused number place) = false

-- the cells of the records that a call wrote, and of the last of them
abbrev pub wrote : Call → List ℕ
wrote call = take (count_of (answer_said call.answer) * record_size) call.exit

abbrev pub last_record : ℕ → List ℕ → List ℕ
last_record count cells = take record_size (drop ((count - 1) * record_size) cells)

-- the next call starts after the last record written, or where this one did if it wrote none
abbrev pub start_behind : Start → ℕ → List ℕ → Start
start_behind start zero cells = start
start_behind start (suc count) cells = bookmarked (last_record (suc count) cells)

-- "Each starts after the last chain handed over, or fresh if none has been, and has room for at least one."
-- a run of calls on one listing, from a start on
pub data Run (first : Fault) (chains : List (List ℕ)) : Start → List Call → Type 0 where
  done : {start : Start} → Run first chains start []
  call : {start : Start} {c : Call} {calls : List Call} → PortionOf first chains start c.out c.exit c.answer → record_size ≤ length c.out
      → Run first chains (start_behind start (count_of (answer_said c.answer)) c.exit) calls → Run first chains start (c ∷ calls)

-- what a run wrote, laid end to end, and the rooms together
abbrev pub all_wrote : List Call → List ℕ
all_wrote [] = []
all_wrote (c ∷ calls) = wrote c ++ all_wrote calls

abbrev pub all_room : List Call → ℕ
all_room [] = 0
all_room (c ∷ calls) = room_in c + all_room calls

-- "Every portion brings a chain until the listing is exhausted": of every call, while these chains are left, it answers as many as it has
-- room for, or all if fewer, and that is at least one while any is left
abbrev pub Brings : List (List ℕ) → List Call → Type 0
Brings left [] = Unit {0}
Brings left (c ∷ calls) =
    (count_of (answer_said c.answer) ≡ length (take (room_in c) left)) × (left ≢ [] → 1 ≤ count_of (answer_said c.answer)) × Brings (drop (room_in c) left) calls

-- "and one says "ended" exactly when no chain follows it": the same of every call
abbrev pub EndsRight : List (List ℕ) → List Call → Type 0
EndsRight left [] = Unit {0}
EndsRight left (c ∷ calls) = ((says_ended (answer_said c.answer) ≡ true) ↔ (drop (room_in c) left ≡ [])) × EndsRight (drop (room_in c) left) calls

-- calls one after another, where these chains are left at the start: the records laid end to end are those of the first of them, as many as
-- the rooms add up to, or of all; and what each call says
pub record Laid (left : List (List ℕ)) (calls : List Call) : Type 0 where
  pub cells : all_wrote calls ≡ cells_of record_size (take (all_room calls) left)
  pub brings : Brings left calls
  pub ends : EndsRight left calls

-- calls after a bookmark, whoever kept it: what stands behind its own chain is left at the start
pub record ResumedIn (chains : List (List ℕ)) (bookmark : List ℕ) (calls : List Call) : Type 0 where
  pub before : List (List ℕ)
  pub behind : List (List ℕ)
  pub stands : chains ≡ before ++ chain_of bookmark ∷ behind
  pub laid : Laid behind calls
