-- The customer's three demands, one statement each. Each of the customer's sentences stands word for word above the one field that says it; the first two
-- of demand 3 say what is given, which is a `Run`. Demands 2 and 3 are said of any listing, then of the chains and of the rings. Fields that no sentence
-- stands above say more: what follows, what the operations write, and the same after bookmarks and of held listings. Definitions only; proofs/Demands proves them.
use Rattle.std.specs.Prelude.{Result, ◌≡◌, ◌≢◌, ◌↔◌, ◌⊎◌, true, List, [], ◌∷◌, reverse, ℕ, ◌≤◌, length, take}
use Rattle.std.specs.Borrow.{Bor}
use Rattle.format.specs.Format.{person_count}
use Rattle.checking.specs.Verdict as verdict
use Rattle.refusals.specs.Faults.{Fault, sound, fault, first_of}
use Rattle.checking.specs.Checked.{file_fault, file_numbers}
use Rattle.checking.specs.Answers.{verdict_said, Checks, Views}
use Rattle.format.specs.declared.layout.Counts.{Counts}
use Rattle.ways.specs.Graph.{◌∈◌}
use Rattle.ways.specs.Chain.{Distinct, hops}
use Rattle.ways.specs.Order.{Before, Rising}
use Rattle.ways.specs.ByHops.{Sooner}
use Rattle.ways.specs.Records.{cells_of, written}
use Rattle.ways.specs.Sizes.{record_size}
use Rattle.question.specs.declared.Question.{Question}
use Rattle.question.specs.Asked.{person_fault, asked_fault, asked_numbers, rings_asked_fault}
use Rattle.distance.specs.Answers as distance
use Rattle.refusals.specs.declared.Refusal.{Refusal}
use Rattle.portion.specs.Listing.{listing_for, portion_fault, portion_numbers, Portioned, LaidEndToEnd, Resumed}
use Rattle.rings.specs.Rings.{rings_for, rings_fault, rings_numbers, RingsPortioned}
use Rattle.listing.specs.Portions.{Start, fresh, bookmarked, start_fault}
use Rattle.refusals.specs.Answers.{listed, refused, answer_said, Told}
use Rattle.listing.specs.Answers.{PortionOf}
use Rattle.listing.specs.EndToEnd.{Call, Run, says_ended, all_wrote, all_room, Brings, EndsRight, Laid, ResumedIn}
use Rattle.held.specs.declared.Held.{Held}
use Rattle.held.specs.Holding.{start_of, MovedOn}
use Rattle.listing.specs.Onward.{Quiet}
use Rattle.held.specs.Calls.{Run as HeldRun}
use Rattle.join.specs.Lists.{halves_for, chains_for, halves_fault, join_fault, join_numbers, first_ones, all_fit}
use Rattle.join.specs.Answers.{Joins}
use Rattle.demands.specs.OneResult.{OneResult}
use Rattle.demands.specs.Paths.{Reached, SimplePath, RingPath, HalfPath, FewestFrom}

-- How an operation ends of which this is the first fault, in the order of the customer's table: with its answer; or with the number of
-- that fault, one of those that the operation gives, and its place
pub record Ends {A : Type 0} (refused : ℕ → ℕ → A) (first : Fault) (numbers : List ℕ) (answer : A) : Type 0 where
  pub answers : first ≡ sound → (number place : ℕ) → answer ≢ refused number place
  pub refuses : (number place : ℕ) → first ≡ fault number place → (answer ≡ refused number place) × (number ∈ numbers)

-- every public operation ends so. That it ends at all is part of each function's own proof
pub record EveryEnds : Type 0 where
  pub check : (file : List ℕ) (answer : Result Counts Refusal) → Checks file answer → Ends verdict.refused (file_fault file) file_numbers (verdict_said answer)
  -- "For a refused file, or a person out of range, the part is empty and no number comes with it"
  pub row : (file view : Bor (List ℕ)) (person : ℕ) → Views file person view → (file_fault file.now ≢ sound) ⊎ (person_count file.now ≤ person) → view.now ≡ []
  pub fewest : (file : List ℕ) (q : Question) (person : ℕ) (answer : Result ℕ Refusal) → distance.FewestHops file q person answer
      → Ends distance.refused (first_of (file_fault file) (person_fault (person_count file) q person)) asked_numbers (distance.hops_said answer)
  pub portion : (file : List ℕ) (q : Question) {start : Start} {out out' : List ℕ} {answer : Told} → Portioned file q start out out' answer
      → Ends refused (portion_fault file q start out) portion_numbers (answer_said answer)
  pub rings : (file : List ℕ) (q : Question) {start : Start} {out out' : List ℕ} {answer : Told} → RingsPortioned file q start out out' answer
      → Ends refused (rings_fault file q start out) rings_numbers (answer_said answer)
  pub held : {file : List ℕ} {held held' : Held} {out out' : List ℕ} {answer : Told} → MovedOn file held held' out out' answer
      → Ends refused (portion_fault file held.question (start_of held) out) portion_numbers (answer_said answer)
  pub join : (file : List ℕ) (q : Question) {working working' out out' : List ℕ} {answer : Told} → Joins file q working working' out out' answer
      → Ends refused (join_fault file q working out) join_numbers (answer_said answer)

-- the operations that are lent cells for writing. The file and a bookmark are lent for reading only (`&`): the language lets nobody
-- write through such a loan, so no promise has to say that they stay
pub record RefusalLeaves : Type 0 where
  pub portion : (file : List ℕ) (q : Question) {start : Start} {out out' : List ℕ} {answer : Told} {number place : ℕ} → Portioned file q start out out' answer
      → answer_said answer ≡ refused number place → out' ≡ out
  pub rings : (file : List ℕ) (q : Question) {start : Start} {out out' : List ℕ} {answer : Told} {number place : ℕ} → RingsPortioned file q start out out' answer
      → answer_said answer ≡ refused number place → out' ≡ out
  pub held : {file : List ℕ} {held held' : Held} {out out' : List ℕ} {answer : Told} {number place : ℕ} → MovedOn file held held' out out' answer
      → answer_said answer ≡ refused number place → (held' ≡ held) × (out' ≡ out)
  pub join : (file : List ℕ) (q : Question) {working working' out out' : List ℕ} {answer : Told} {number place : ℕ} → Joins file q working working' out out' answer
      → answer_said answer ≡ refused number place → (working' ≡ working) × (out' ≡ out)

-- Demand 1
pub record DemandOne : Type 0 where
  -- "For every byte string offered as a link file, every question and every bookmark, the software ends with its answer or a numbered
  -- refusal and its place."
  pub ends : EveryEnds
  -- "It relies on nobody having checked beforehand."
  -- whatever is lent, the promise allows a result, and one only; no public operation has a `requires`
  pub nobody_checked : OneResult
  -- "A refusal leaves the file, the output cells, the working cells and any held listing exactly as they came."
  pub leaves : RefusalLeaves

-- the first of these chains are what an operation listed: how many it answers, whether that was all, and which cells they are in
pub record Lists (chains : List (List ℕ)) (out out' : List ℕ) (answer : Told) : Type 0 where
  pub says : answer_said answer ≡ listed (length (first_ones chains out)) (all_fit chains out)
  pub cells : out' ≡ written record_size (first_ones chains out) out

-- What demand 2 says of a listing, of which this is the first fault: it holds just what `Is` says, a chain or a ring in the customer's words
pub record HoldsJust (Is : List ℕ → Type 0) (first : Fault) (chains : List (List ℕ)) : Type 0 where
  -- "The listing from one person to another holds every simple path of at most the asked number of hops over admitted links, as the
  -- published definition of hop-constrained path enumeration has it."
  pub holds_every : (c : List ℕ) → Is c → c ∈ chains
  -- "Each stands there once, in dictionary order, and nothing else does."
  pub once_in_order : Distinct chains × Rising Before chains × ((c : List ℕ) → c ∈ chains → Is c)
  -- so the listing is the only list that is so
  pub no_other : (L : List (List ℕ)) → Rising Before L → ((c : List ℕ) → c ∈ L ↔ Is c) → L ≡ chains
  -- and a portion from a fresh start lists it
  pub portion : {out out' : List ℕ} {answer : Told} → record_size ≤ length out → PortionOf first chains fresh out out' answer → Lists chains out out' answer

-- there is room for a record, and for the half chains
pub record Fitting (file : List ℕ) (q : Question) (working out : List ℕ) : Type 0 where
  pub room : record_size ≤ length out
  pub shelf : halves_fault record_size (length working) (halves_for file q) ≡ sound

-- the join route of a file and a question that pass
pub record JoinRoute (file : List ℕ) (q : Question) : Type 0 where
  pub same : (c : List ℕ) → c ∈ chains_for file q ↔ c ∈ listing_for file q
  pub once : Distinct (chains_for file q)
  pub shortest_first : Rising Sooner (chains_for file q)
  -- "half chains are the simple admitted sequences of 0 to k/2 hops (rounded down) ending at To and not visiting From, also (To) alone."
  pub all_half_chains : (h : List ℕ) → h ∈ halves_for file q ↔ HalfPath file q h
  pub to_alone : q.to ∷ [] ∈ halves_for file q
  -- "They are written as records to the working cells, shorter first, then in dictionary order; later cells are unchanged."
  pub halves_written : {working working' out out' : List ℕ} {answer : Told} → Fitting file q working out → Joins file q working working' out out' answer → working' ≡ written record_size (halves_for file q) working
  -- "shorter first, then in dictionary order"
  pub halves_in_order : Rising Sooner (halves_for file q)
  -- and the chains are what is listed
  pub lists : {working working' out out' : List ℕ} {answer : Told} → Fitting file q working out → Joins file q working working' out out' answer → Lists (chains_for file q) out out' answer

-- Demand 2, of a file and a question that pass
pub record DemandTwo (file : List ℕ) (q : Question) : Type 0 where
  -- its first two sentences, of the chains
  pub listing : HoldsJust (SimplePath file q) (asked_fault file q) (listing_for file q)
  -- "The join route lists the same paths, shortest first."
  pub join_route : JoinRoute file q

-- one of the calls says ended
abbrev pub SomeEnded : List Call → Type 0
SomeEnded [] = ⊥
SomeEnded (call ∷ calls) = (says_ended (answer_said call.answer) ≡ true) ⊎ SomeEnded calls

-- What demand 3 says of a listing, of which this is the first fault
pub record InPortions (first : Fault) (chains : List (List ℕ)) : Type 0 where
  -- "Take one file that passes, one question that passes, and any sequence of portions. Each starts after the last chain handed over, or
  -- fresh if none has been, and has room for at least one." That is a `Run` from `fresh` on.
  -- "Laid end to end they are the first chains of demand 2's listing, as many as their rooms add up to, or all of it."
  pub laid_end_to_end : {calls : List Call} → Run first chains fresh calls → all_wrote calls ≡ cells_of record_size (take (all_room calls) chains)
  -- "Every portion brings a chain until the listing is exhausted, and one says "ended" exactly when no chain follows it."
  pub brings_and_ends : {calls : List Call} → Run first chains fresh calls → Brings chains calls × EndsRight chains calls
  -- once one says so, the whole listing was handed over
  pub whole : {calls : List Call} → Run first chains fresh calls → SomeEnded calls → all_wrote calls ≡ cells_of record_size chains
  -- the same after a bookmark that somebody kept: the rest of the listing, from the chain behind it on
  pub resumed : (bookmark : List ℕ) {calls : List Call} → start_fault chains (bookmarked bookmark) ≡ sound → Run first chains (bookmarked bookmark) calls → ResumedIn chains bookmark calls
  -- there too, once one says ended, all that was left was handed over
  pub whole_rest : {left : List (List ℕ)} {calls : List Call} → Laid left calls → SomeEnded calls → all_wrote calls ≡ cells_of record_size left

-- Demand 3, of a file and a question that pass
pub record DemandThree (file : List ℕ) (q : Question) : Type 0 where
  -- all of it, of the chains
  pub portions : InPortions (asked_fault file q) (listing_for file q)
  -- the same of the calls of one held listing, whether it was started before or not; refused ones may stand between them
  pub held : {held held' : Held} {calls : List Call} → held.question ≡ q → held.started ≡ 0 → HeldRun file held calls held' → LaidEndToEnd file q calls
  pub held_resumed : {held held' : Held} {calls : List Call} → held.question ≡ q → held.started ≢ 0 → start_fault (listing_for file q) (bookmarked held.«record») ≡ sound → HeldRun file held calls held'
      → Resumed file q held.«record» calls
  -- and after one that says ended nothing more comes
  pub held_ended : {held held' held'' : Held} {out out' : List ℕ} {answer : Told} {count : ℕ} {calls : List Call} → MovedOn file held held' out out' answer
      → answer_said answer ≡ listed count true → HeldRun file held' calls held'' → (held'' ≡ held') × Quiet calls

-- Demands 2 and 3 of the rings of a person, of a file and a question for rings that pass
pub record RingsAsSaid (file : List ℕ) (q : Question) : Type 0 where
  -- "For one person, list every ring: 2 to k admitted hops, starting and ending at that person, all others different from it and each other."
  pub every_ring : HoldsJust (RingPath file q) (rings_asked_fault file q) (rings_for file q)
  -- "Portions, bookmarks and order are those of the chain listing, and demand 3 holds for rings too."
  pub portions : InPortions (rings_asked_fault file q) (rings_for file q)
  -- with one hop there is none
  pub one_hop : q.hops ≡ 1 → rings_for file q ≡ []
  -- where every hop has an admitted link back, the other direction is listed too; it is another ring, but with two hops
  pub other_direction : (c : List ℕ) → c ∈ rings_for file q → Reached file q (reverse c) → reverse c ∈ rings_for file q
  pub two_rings : (c : List ℕ) → c ∈ rings_for file q → 3 ≤ hops c → reverse c ≢ c

-- Beside the demands, of every file and question: the number that is answered for a person is the fewest hops by the customer's sentence
pub record FewestAsSaid : Type 0 where
  pub fewest : (file : List ℕ) (q : Question) (person d : ℕ) (answer : Result ℕ Refusal) → distance.FewestHops file q person answer → distance.hops_said answer ≡ distance.hops d → FewestFrom file q person d
