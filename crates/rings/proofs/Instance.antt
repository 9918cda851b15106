-- The rings of a file and a question that pass are a listing, so all that holds of any listing holds of them; and they are what the search
-- lists where From is To.
use mathlib.Core.Path.{◌≡◌, sym, ap, ◌∙◌}
use mathlib.Core.List.{List}
use Prim.Native.Nat.{ℕ, ◌<◌}
use native.Mathlib.Omega.{arith}
use Rattle.refusals.specs.Faults.{sound, Numbered}
use Rattle.ways.specs.Order.{Rising}
use Rattle.ways.specs.Listing.{listing}
use Rattle.ways.specs.Sizes.{record_size}
use Rattle.ways.proofs.Rings.{rings_closed, rings_ordered, rings_fits}
use Rattle.question.specs.declared.Question.{Question}
use Rattle.question.specs.declared.Wanted as wanted
use Rattle.question.specs.Asked.{rings_asked_fault, rings_asked_numbers}
use Rattle.question.specs.Admission.{next}
use Rattle.question.proofs.Answerable.{wanted_answerable, asked_same}
use Rattle.question.proofs.Leads.{next_rising, next_other}
use Rattle.question.proofs.Numbered.{rings_asked_numbered}
use Rattle.listing.specs.Portions.{Listing, Start}
use Rattle.listing.proofs.Numbered as any
use Rattle.rings.specs.Rings.{rings_for, rings_fault, rings_numbers}

module _ (file : List ℕ) (q : Question) where
  module _ (asked : rings_asked_fault file q ≡ sound) where
    rows : (p : ℕ) → Rising ◌<◌ (next file q p)
    rows = next_rising (wanted_answerable file q wanted.TheVariants.Rings asked).rules q

    pub rings-listing : Listing (rings_for file q)
    rings-listing = record {
      rises = rings_ordered (next file q) q.from q.hops rows;
      fits = rings_fits (next file q) q.from q.hops record_size (omega (arith, (wanted_answerable file q wanted.TheVariants.Rings asked).proper.most));
    }

    -- nobody has a link to themselves in a file that passes, so nothing closes after one hop
    pub rings_searched : listing (next file q) q.from q.to q.hops ≡ rings_for file q
    rings_searched =
        ap (λ (p : ℕ). listing (next file q) q.from p q.hops) (sym (asked_same file q asked))
        ∙ sym (rings_closed (next file q) q.from q.hops (next_other (wanted_answerable file q wanted.TheVariants.Rings asked).rules q q.from))

  pub rings_numbered : (start : Start) (out : List ℕ) → Numbered rings_numbers (rings_fault file q start out)
  rings_numbered start out = any.portion_numbered rings_asked_numbers (rings_asked_fault file q) (rings_asked_numbered file q) (rings_for file q) start out
