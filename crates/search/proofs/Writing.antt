-- Handing over a chain of the search: its record is set where it lies.
use mathlib.Core.Path.{◌≡◌, refl, sym, ap, ◌∙◌}
use mathlib.Core.Bool.{false}
use mathlib.Core.List.{List, [], ◌∷◌}
use Prim.Native.Nat.{ℕ, ◌+◌, ◌-◌, ◌*◌, ◌≤◌, ◌<◌}
use lib.ListN.{length, set, length-set}
use lib.Seq.{paste, set-set, set_comm}
use native.Mathlib.Omega.{arith}
use native.Mathlib.Nat.{add-zero}
use borrow.Author.Tests.{lt-ltb}
use Rattle.ways.specs.Sizes.{record_size}
use Rattle.pages.specs.Pages.{record_with}
use Rattle.pages.proofs.Copying.{paste_set}
use Rattle.search.specs.HandingOver.{Room, Handed}
use Rattle.search.specs.declared.walk.Walk.{Walk}

-- ---- `hand_over`

-- the cells of a record, set where they lie
set_record : (out chain : List ℕ) (at a b x y z : ℕ) → at + record_size ≤ length out → length chain ≡ record_size → a < record_size → b < record_size
    → set (set (set (paste out at chain record_size) at x) (at + a) y) (at + b) z ≡ paste out at (set (set (set chain 0 x) a y) b z) record_size
set_record out chain at a b x y z fits long ha hb =
    let first : set (paste out at chain record_size) at x ≡ paste out at (set chain 0 x) record_size = ap (λ (i : ℕ). set (paste out at chain record_size) i x) (sym (add-zero at)) ∙ paste_set out at chain record_size 0 x (omega arith) (omega arith) (omega arith) in
    let l₁ : length (set chain 0 x) ≡ record_size = length-set chain 0 x ∙ long in
    let l₂ : length (set (set chain 0 x) a y) ≡ record_size = length-set (set chain 0 x) a y ∙ l₁ in
    ap (λ (o : List ℕ). set (set o (at + a) y) (at + b) z) first
    ∙ ap (λ (o : List ℕ). set o (at + b) z) (paste_set out at (set chain 0 x) record_size a y (omega arith) (omega arith) ha)
    ∙ paste_set out at (set (set chain 0 x) a y) record_size b z (omega arith) (omega arith) hb

module _ {walk : Walk} {out : List ℕ} {len hops : ℕ} (k : Room walk out len hops) where
  pub hand_fits : walk.count < walk.ask.room → walk.count * record_size + record_size ≤ length out
  hand_fits h = omega (arith, k.cells)

  pub hand_put : {v : ℕ} {out' : List ℕ} → walk.count < walk.ask.room → out' ≡ paste out (walk.count * record_size) walk.chain record_size
      → Handed walk (record walk { count = walk.count + 1 }) out (set (set (set out' (walk.count * record_size) hops) (walk.count * record_size + (len + 1)) v) (walk.count * record_size + (hops + 1)) walk.ask.to) len v hops false
  hand_put {v} {out'} h e = record {
    rest = refl;
    right = rw (lt-ltb walk.count walk.ask.room h, e, set_record out walk.chain (walk.count * record_size) (len + 1) (hops + 1) hops v walk.ask.to (hand_fits h) k.long (omega (arith, k.behind, k.short)) (omega (arith, k.short)));
  }

-- the record of the chain with To behind it, and with v and To behind it
pub record_end : (chain : List ℕ) (len t : ℕ) → set (set (set chain 0 len) (len + 1) t) (len + 1) t ≡ record_with chain len (t ∷ [])
unfolding record_with
record_end chain len t =
    let one : len + 1 - 1 ≡ len = omega arith in
    rw (set-set (set chain 0 len) (len + 1) t t, one) (set_comm chain 0 (len + 1) len t (λ e. omega arith))

pub record_last : (chain : List ℕ) (len v t : ℕ) → set (set (set chain 0 (len + 1)) (len + 1) v) (len + 1 + 1) t ≡ record_with chain len (v ∷ t ∷ [])
unfolding record_with
record_last chain len v t =
    let one : len + 1 + 1 - 1 ≡ len + 1 = omega arith in
    rw one
    (ap (λ (c : List ℕ). set c (len + 1 + 1) t) (set_comm chain 0 (len + 1) (len + 1) v (λ e. omega arith))
    ∙ set_comm (set chain (len + 1) v) 0 (len + 1 + 1) (len + 1) t (λ e. omega arith))
