-- What the answer of a portion tells of the held listing: what is to be kept, and which case of its promise holds.
use mathlib.Core.Path.{◌≡◌, refl, sym, ap, ◌∙◌}
use mathlib.Core.List.{List, [], ◌∷◌}
use Prim.Native.Nat.{ℕ, zero, suc}
use native.Mathlib.Omega.{arith}
use lib.ListN.{length}
use Rattle.refusals.specs.Faults.{lent}
use Rattle.refusals.specs.Answers.{Answer, listed, refused, answer_said, Told}
use Rattle.listing.specs.EndToEnd.{count_of}
use Rattle.listing.proofs.Telling.{listed_sound, listed_first, listed_count, listed_last, refused_fault}
use Rattle.portion.specs.Listing.{portion_fault, portion_for, Portioned}
use Rattle.portion.proofs.Instance.{chains-listing}
use Rattle.held.specs.declared.Held.{Held}
use Rattle.std.specs.Prelude.{Option, None, Some}
use Rattle.held.specs.Holding.{start_of, held_after, MovedOn}
use Rattle.held.specs.Keeping.{record_behind}

-- with no chain written nothing in it changes
pub none_after : (chains : List (List ℕ)) (held : Held) → length chains ≡ 0 → held_after chains held ≡ held
none_after [] held none = refl
none_after (c ∷ chains) held none = absurd (omega arith)

-- the held listing with that put into it
abbrev pub keeping : Held → Option (List ℕ) → Held
keeping held None = held
keeping held (Some kept) = record { question = held.question; started = 1; «record» = kept }

module _ (file : List ℕ) (held : Held) {out out' : List ℕ} {answer : Told} (p : Portioned file held.question (start_of held) out out' answer) where
  -- with what is kept behind the portion stored in it, the held listing's promise holds
  pub moved_on : MovedOn file held (keeping held (record_behind (count_of (answer_said answer)) out')) out out' answer
  moved_on = record { portioned = p; keeps = go (answer_said answer) (portion_for file held.question (start_of held) out) refl refl }
    where
      go : (said : Answer) (chains : List (List ℕ)) → answer_said answer ≡ said → portion_for file held.question (start_of held) out ≡ chains
          → keeping held (record_behind (count_of said) out') ≡ lent (portion_fault file held.question (start_of held) out) (held_after chains held) held
      go (refused number place) chains i j = rw (refused_fault p i)
      go (listed zero ended) chains i j = rw (listed_sound p i) (sym (none_after chains held (sym (listed_count p i ∙ ap length j))))
      go (listed (suc count) ended) [] i j = absurd (omega (arith, listed_count p i ∙ ap length j))
      go (listed (suc count) ended) (c ∷ chains) i j = rw (listed_sound p i, listed_last p i (chains-listing file held.question (listed_first p i)) c chains j)
