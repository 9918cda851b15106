-- What the answer of a portion tells of it: which case of its promise holds, which chains it has, and where the last record stands.
use mathlib.Core.Path.{◌≡◌, sym, ap, subst, ◌∙◌}
use mathlib.Core.Bool.{Bool}
use mathlib.Core.List.{List, ◌∷◌}
use Prim.Native.Nat.{ℕ, ◌-◌, ◌*◌, ◌≤◌}
use native.Mathlib.Omega.{arith}
use lib.ListN.{length, drop, length-take}
use lib.Dec.{leb}
use Rattle.refusals.specs.Faults.{Fault, sound, fault}
use Rattle.refusals.specs.Answers.{Told, listed, refused, answer_said, room_fault}
use Rattle.refusals.proofs.Faults.{first_both, unless_none}
use Rattle.refusals.proofs.Answers.{answer_listed, answer_refused}
use Rattle.ways.specs.Graph.{◌∈◌}
use Rattle.ways.specs.Portions.{after, last_or}
use Rattle.ways.specs.Records.{record_of, Fits, room_of, written}
use Rattle.ways.specs.Sizes.{record_size}
use Rattle.ways.proofs.Records.{length-written, room_within}
use Rattle.listing.specs.Portions.{Listing, Start, starts_after, start_fault, refusal_of, portion_of, ended_of}
use Rattle.listing.specs.Answers.{PortionOf}
use Rattle.listing.specs.EndToEnd.{last_record}
use Rattle.listing.proofs.Records.{last_record_lem}
use Rattle.listing.proofs.Known.{portion_in_lem}

-- a portion that is not refused has no fault before it, and a start that passes
pub sound_first : (first : Fault) (chains : List (List ℕ)) (start : Start) (out : List ℕ) → refusal_of first chains start out ≡ sound → (first ≡ sound) × (start_fault chains start ≡ sound)
unfolding refusal_of
sound_first first chains start out e =
    let both = first_both first (room_fault (length out) (start_fault chains start)) e in
    (both.0, (unless_none (leb record_size (length out)) 16 0 both.1).1)

-- what the answer tells of the portion
module _ {first : Fault} {chains : List (List ℕ)} {start : Start} {out out' : List ℕ} {answer : Told} (p : PortionOf first chains start out out' answer) where
  pub refused_fault : {number place : ℕ} → answer_said answer ≡ refused number place → refusal_of first chains start out ≡ fault number place
  refused_fault said = answer_refused (refusal_of first chains start out) (length (portion_of chains start out)) (ended_of chains start out) (sym said ∙ p.answers)

  module _ {count : ℕ} {ended : Bool} (said : answer_said answer ≡ listed count ended) where
    told : (refusal_of first chains start out ≡ sound) × (count ≡ length (portion_of chains start out)) × (ended ≡ ended_of chains start out)
    told = answer_listed (refusal_of first chains start out) (sym said ∙ p.answers)

    pub listed_sound : refusal_of first chains start out ≡ sound
    listed_sound = told.0

    pub listed_first : first ≡ sound
    listed_first = (sound_first first chains start out listed_sound).0

    pub listed_count : count ≡ length (portion_of chains start out)
    listed_count = told.1

    pub listed_ended : ended ≡ ended_of chains start out
    listed_ended = told.2

    -- there is room for the chains
    pub listed_room : length (portion_of chains start out) * record_size ≤ length out
    listed_room = omega (arith, length-take (room_of record_size (length out)) (after (starts_after start) chains), room_within record_size (length out))

    pub listed_cells : out' ≡ written record_size (portion_of chains start out) out
    listed_cells = rw listed_sound at p.cells

    module _ (is : Listing chains) where
      -- the chains have records
      pub listed_fits : (c : List ℕ) → c ∈ portion_of chains start out → Fits record_size c
      listed_fits c m = is.fits c (portion_in_lem chains start out m)

      pub listed_length : length out' ≡ length out
      listed_length = ap length listed_cells ∙ length-written record_size (portion_of chains start out) out listed_fits listed_room

      pub listed_last : (c : List ℕ) (rest : List (List ℕ)) → portion_of chains start out ≡ c ∷ rest → last_record count out' ≡ record_of record_size (last_or c rest)
      unfolding written
      listed_last c rest e =
          let n : count - 1 ≡ length rest = omega (arith, listed_count, ap length e) in
          rw (n, listed_cells, e) (last_record_lem record_size c rest (drop (length (c ∷ rest) * record_size) out) (λ d m. listed_fits d (subst (λ l. d ∈ l) (sym e) m)))
