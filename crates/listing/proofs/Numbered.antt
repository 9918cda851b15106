-- A portion is refused with the number of the first fault, or with 16 or 17.
use mathlib.Core.Path.{refl}
use mathlib.Core.List.{List, [], ◌∷◌}
use Prim.Native.Nat.{ℕ}
use native.Mathlib.Omega.{arith}
use lib.ListN.{length}
use lib.Dec.{leb}
use Rattle.refusals.specs.Faults.{Fault, sound, Numbered}
use Rattle.refusals.specs.Answers.{room_fault}
use Rattle.refusals.proofs.Numbered.{numbered_unless, numbered_both}
use Rattle.ways.specs.Graph.{among}
use Rattle.ways.specs.Records.{is_record_in}
use Rattle.ways.specs.Sizes.{record_size}
use Rattle.ways.proofs.Members.{among_true}
use Rattle.listing.specs.Portions.{Start, fresh, bookmarked, start_fault, refusal_of, portion_numbers_after}

pub portion_numbered : (numbers : List ℕ) (first : Fault) → Numbered numbers first → (chains : List (List ℕ)) (start : Start) (out : List ℕ) → Numbered (portion_numbers_after numbers) (refusal_of first chains start out)
unfolding refusal_of among
portion_numbered numbers first n chains start out =
    numbered_both numbers own first (room_fault (length out) (start_fault chains start)) n
    (numbered_unless own (leb record_size (length out)) 16 0 (start_fault chains start) (among_true 16 own refl, omega arith) (starts start))
  where
    own : List ℕ
    own = 16 ∷ 17 ∷ []

    starts : (s : Start) → Numbered own (start_fault chains s)
    starts fresh = tt
    starts (bookmarked bookmark) = numbered_unless own (is_record_in record_size chains bookmark) 17 0 sound (among_true 17 own refl, omega arith) tt
