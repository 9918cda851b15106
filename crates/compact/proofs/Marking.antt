-- Marks and the persons seen: nobody at first, and then one more.
use mathlib.Core.Path.{◌∙◌}
use mathlib.Core.Bool.{Bool, true, false}
use mathlib.Core.List.{List, [], ◌∷◌}
use mathlib.Core.Logic.{⊎_elim}
use Prim.Native.Nat.{ℕ, ◌<◌}
use lib.ListN.{set, replicate, length-set, length-replicate, get_or-replicate, get_or-eq_default}
use lib.Seq.{get_or-set_same, get_or-set_other}
use native.Mathlib.Omega.{arith}
use borrow.Author.Tests.{eq-eqb, ne_eqb}
use Rattle.ways.specs.Graph.{among}
use Rattle.ways.proofs.Cases.{same_or_not, lt_or_le}
use Rattle.compact.specs.Compact.{persons}
use Rattle.compact.specs.Marks.{Marked}

pub nobody : Marked (replicate persons false) []
unfolding among
nobody = record { wide = length-replicate persons false; each = λ v. ⊎_elim (λ l. get_or-replicate persons v false false l) (λ l. get_or-eq_default (replicate persons false) false {n = v} (rw (length-replicate persons false) l)) (lt_or_le v persons) }

pub marked_more : {marks : List Bool} {seen : List ℕ} (v : ℕ) → v < persons → Marked marks seen → Marked (set marks v true) (v ∷ seen)
unfolding among
marked_more {marks} {seen} v h m = record {
  wide = length-set marks v true ∙ m.wide;
  each = λ u.
      ⊎_elim
      (λ e. rw (eq-eqb u v e, e) (get_or-set_same marks v true false (omega (arith, m.wide))))
      (λ ne. rw (ne_eqb u v ne) (get_or-set_other marks v u true false ne ∙ m.each u))
      (same_or_not u v);
}
