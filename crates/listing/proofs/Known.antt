-- What is known of a portion of a listing, and of a bookmark in it.
use mathlib.Core.Path.{◌≡◌, refl, ◌∙◌}
use mathlib.Core.List.{List, [], ◌∷◌, ◌++◌}
use Prim.Native.Nat.{ℕ, suc, ◌-◌, ◌≤◌}
use native.Mathlib.Omega.{arith}
use lib.ListN.{length}
use Rattle.refusals.specs.Faults.{Fault, sound}
use Rattle.ways.specs.Graph.{◌∈◌}
use Rattle.ways.specs.Portions.{after, last_or}
use Rattle.ways.specs.Records.{record_of, chain_of, cells_of, room_of}
use Rattle.ways.specs.Sizes.{record_size}
use Rattle.ways.proofs.Portions.{last_or_in}
use Rattle.ways.proofs.After.{after_from, after_fresh}
use Rattle.ways.proofs.Members.{take_in}
use Rattle.ways.proofs.Records.{length-record_of, chain_of-record_of, true_is_record_in}
use Rattle.listing.specs.Portions.{Listing, Start, bookmarked, starts_after, start_fault, refusal_of, portion_of}
use Rattle.listing.specs.EndToEnd.{last_record}
use Rattle.listing.proofs.Records.{last_record_lem}
use Rattle.listing.proofs.Answering.{start_left}

-- the chains of a portion are chains of the listing
pub portion_in_lem : (chains : List (List ℕ)) (start : Start) (out : List ℕ) {c : List ℕ} → c ∈ portion_of chains start out → c ∈ chains
portion_in_lem chains start out m = (after_from (starts_after start) chains (take_in (room_of record_size (length out)) (after (starts_after start) chains) m)).0

-- with room for a record, a start that passes is not refused
pub passes : {first : Fault} (chains : List (List ℕ)) → first ≡ sound → (start : Start) (out : List ℕ) → start_fault chains start ≡ sound → record_size ≤ length out → refusal_of first chains start out ≡ sound
passes chains none start out s h = start_left chains start out none h ∙ s

-- a bookmark that is the record of a chain of the listing
pub record Kept (chains : List (List ℕ)) (bookmark c : List ℕ) : Type 0 where
  pub mark : chain_of bookmark ≡ c
  pub whole : length bookmark ≡ record_size
  pub passing : start_fault chains (bookmarked bookmark) ≡ sound

module _ {chains : List (List ℕ)} (is : Listing chains) where
  -- a fresh start comes before every chain
  pub fresh_all : after [] chains ≡ chains
  fresh_all = after_fresh chains (λ c m. (is.fits c m).some)

  pub kept : (c : List ℕ) → c ∈ chains → Kept chains (record_of record_size c) c
  kept c m =
      let fit = is.fits c m in
      record {
        mark = chain_of-record_of record_size c fit.some;
        whole = length-record_of record_size c fit.room;
        passing = rw (true_is_record_in record_size (record_of record_size c) m refl);
      }

  -- so is the last of the records that were written
  pub last_kept : (b : List ℕ) (P : List (List ℕ)) (rest : List ℕ) → 1 ≤ length P → ((d : List ℕ) → d ∈ P → d ∈ chains) → Kept chains (last_record (length P) (cells_of record_size P ++ rest)) (last_or b P)
  last_kept b [] rest some inside = absurd (omega arith)
  last_kept b (c ∷ P) rest some inside =
      let same : length P ≡ suc (length P) - 1 = omega arith in
      let stands = last_record_lem record_size c P rest (λ d m. is.fits d (inside d m)) in
      rw (← same, stands) (kept (last_or c P) (inside (last_or c P) (last_or_in c P)))
