-- Going on by a portion: what is still to be printed. Definitions only.
use Rattle.std.specs.Prelude.{◌≡◌, List, ◌++◌, Bool, true, false, ℕ, ◌+◌, ◌≤◌, length, Option, None, Some}
use Rattle.refusals.specs.Faults.{sound}
use Rattle.ways.specs.Portions.{after}
use Rattle.ways.specs.Sizes.{record_size}
use Rattle.question.specs.declared.Question.{Question}
use Rattle.question.specs.Asked.{asked_fault}
use Rattle.portion.specs.Listing.{listing_for}
use Rattle.listing.specs.Portions.{Start, fresh, bookmarked, starts_after, start_fault}
use Rattle.listing.specs.EndToEnd.{last_record}
use Rattle.refusals.specs.Answers.{Answer, listed, refused}
use Rattle.text.specs.Decimal.{worth}
use Rattle.text.specs.Lines.{chain_lines, chains_at, end_line, refusal_line, Records}
use Rattle.text.specs.declared.counts.Counted.{Counted}
use Rattle.chains.specs.Program.{text_for}

-- where the next portion starts: behind the bookmark, or afresh where there is none
abbrev pub next_start : Option (List ℕ) → Start
next_start None = fresh
next_start (Some bookmark) = bookmarked bookmark

-- the chains that are still to come
abbrev pub rest : List ℕ → Question → Start → List (List ℕ)
rest file q start = after (starts_after start) (listing_for file q)

-- what is still to be printed from a start on, where so many chains were printed before
abbrev pub to_come : List ℕ → Question → Start → ℕ → List ℕ
to_come file q start before = text_for (asked_fault file q) (rest file q start) before

-- the start is fresh or behind a chain of the listing, and the chains up to it were counted
pub record OnTheWay (file : List ℕ) (q : Question) (start : Start) (counted : Counted) (cells : List ℕ) : Type 0 where
  pub room : record_size ≤ length cells
  pub passing : start_fault (listing_for file q) start ≡ sound
  pub sum : worth counted.digits + length (rest file q start) ≡ length (listing_for file q)

-- going on by a portion: what was to come is a refusal's line; or the lines of the chains that are in the cells now, and then the last
-- line, or what is to come from the last of them on
pub record WentOn (file : List ℕ) (q : Question) (start : Start) (before : ℕ) (start' : Start) (counted' : Counted) (cells' : List ℕ) (answer : Answer) : Type 0 where
  pub refuses : {number place : ℕ} → answer ≡ refused number place → to_come file q start before ≡ refusal_line number place
  pub lists : {count : ℕ} {ended : Bool} → answer ≡ listed count ended → Records cells' count
  pub ends : {count : ℕ} → answer ≡ listed count true → to_come file q start before ≡ chain_lines (chains_at cells' 0 count) ++ end_line (worth counted'.digits)
  pub kept : {count : ℕ} → answer ≡ listed count false → start' ≡ bookmarked (last_record count cells')
  pub goes : {count : ℕ} → answer ≡ listed count false
      → OnTheWay file q start' counted' cells'
      × (to_come file q start before ≡ chain_lines (chains_at cells' 0 count) ++ to_come file q start' (worth counted'.digits))
      × (1 ≤ count)
