-- A join is refused with one of the question's numbers, or with 16 or 18.
use mathlib.Core.Path.{refl}
use mathlib.Core.List.{List, [], ◌∷◌}
use Prim.Native.Nat.{ℕ}
use native.Mathlib.Omega.{arith}
use lib.ListN.{length}
use lib.Dec.{leb}
use Rattle.refusals.specs.Faults.{Fault, sound, unless, Numbered}
use Rattle.refusals.proofs.Numbered.{numbered_unless, numbered_both}
use Rattle.ways.specs.Graph.{among}
use Rattle.ways.specs.Halves.{halves_fit}
use Rattle.ways.specs.Sizes.{record_size}
use Rattle.ways.proofs.Members.{among_true}
use Rattle.question.specs.declared.Question.{Question}
use Rattle.question.specs.Asked.{asked_fault, asked_numbers}
use Rattle.question.proofs.Numbered.{asked_numbered}
use Rattle.join.specs.Lists.{halves_for, join_fault, join_numbers}

pub join_numbered : (file : List ℕ) (q : Question) (working out : List ℕ) → Numbered join_numbers (join_fault file q working out)
unfolding among
join_numbered file q working out =
    numbered_both asked_numbers own (asked_fault file q) (unless (leb record_size (length out)) 16 0 last) (asked_numbered file q)
    (numbered_unless own (leb record_size (length out)) 16 0 last (among_true 16 own refl, omega arith) (numbered_unless own (halves_fit record_size (length working) (halves_for file q)) 18 0 sound (among_true 18 own refl, omega arith) tt))
  where
    own : List ℕ
    own = 16 ∷ 18 ∷ []

    last : Fault
    last = unless (halves_fit record_size (length working) (halves_for file q)) 18 0 sound
