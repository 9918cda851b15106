-- No promise is empty: there are a file, questions for chains and for rings, and bookmarks that nothing refuses. Definitions only.
use Rattle.std.specs.Prelude.{◌≡◌, List, [], ℕ}
use Rattle.format.specs.Format.{person_count}
use Rattle.refusals.specs.Faults.{sound, first_of}
use Rattle.checking.specs.Checked.{file_fault}
use Rattle.question.specs.declared.Question.{Question}
use Rattle.question.specs.Asked.{person_fault}
use Rattle.portion.specs.Listing.{listing_for, portion_fault}
use Rattle.listing.specs.Portions.{bookmarked}
use Rattle.rings.specs.Rings.{rings_for, rings_fault}
use Rattle.join.specs.Lists.{join_fault}

-- each operation goes its whole way, past every refusal, so whatever its inner functions ask of their callers is asked of this too
pub record Passing (file : List ℕ) (q : Question) (person : ℕ) (bookmark : List ℕ) (ring : Question) (ring_bookmark working out : List ℕ) : Type 0 where
  pub check : file_fault file ≡ sound
  pub fewest : first_of (file_fault file) (person_fault (person_count file) q person) ≡ sound
  -- a held listing that was started and has this record asks the same
  pub portion : portion_fault file q (bookmarked bookmark) out ≡ sound
  pub rings : rings_fault file ring (bookmarked ring_bookmark) out ≡ sound
  pub join : join_fault file q working out ≡ sound
  pub chains : listing_for file q ≡ [] → ⊥
  pub ringed : rings_for file ring ≡ [] → ⊥
