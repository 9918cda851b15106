-- The chains from From to To of a file and a question that pass are a listing, so all that holds of any listing holds of them.
use mathlib.Core.Path.{◌≡◌}
use mathlib.Core.List.{List, [], ◌∷◌}
use Prim.Native.Nat.{ℕ, ◌<◌}
use native.Mathlib.Omega.{arith}
use Rattle.refusals.specs.Faults.{sound, Numbered}
use Rattle.ways.specs.Order.{Rising}
use Rattle.ways.specs.Listing.{ways, listing}
use Rattle.ways.specs.Portions.{after}
use Rattle.ways.specs.Sizes.{record_size}
use Rattle.ways.proofs.After.{after_start}
use Rattle.ways.proofs.Ordered.{ordered}
use Rattle.ways.proofs.Records.{listing_fits}
use Rattle.question.specs.declared.Question.{Question}
use Rattle.question.specs.Asked.{asked_fault, asked_numbers}
use Rattle.question.specs.Admission.{next}
use Rattle.question.proofs.Answerable.{asked_answerable}
use Rattle.question.proofs.Leads.{next_rising}
use Rattle.question.proofs.Numbered.{asked_numbered}
use Rattle.listing.specs.Portions.{Listing, Start}
use Rattle.listing.proofs.Numbered as any
use Rattle.portion.specs.Listing.{listing_for, portion_fault, portion_numbers}

module _ (file : List ℕ) (q : Question) where
  -- a fresh start comes before every chain, whether file and question pass or not
  pub fresh_chains : after [] (listing_for file q) ≡ listing_for file q
  unfolding listing
  fresh_chains = after_start q.from (ways (next file q) q.to q.hops (q.from ∷ []) q.from)

  module _ (asked : asked_fault file q ≡ sound) where
    pub rows : (p : ℕ) → Rising ◌<◌ (next file q p)
    rows = next_rising (asked_answerable file q asked).rules q

    pub chains-listing : Listing (listing_for file q)
    chains-listing = record {
      rises = ordered (next file q) rows q.from q.to q.hops;
      fits = listing_fits (next file q) q.from q.to q.hops record_size (omega (arith, (asked_answerable file q asked).proper.most));
    }

  pub portion_numbered : (start : Start) (out : List ℕ) → Numbered portion_numbers (portion_fault file q start out)
  portion_numbered start out = any.portion_numbered asked_numbers (asked_fault file q) (asked_numbered file q) (listing_for file q) start out
