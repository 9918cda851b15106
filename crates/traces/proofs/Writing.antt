-- Handing over a chain of the join: its record is put together where it lies.
use mathlib.Core.Path.{◌≡◌, sym, ap, ◌∙◌}
use mathlib.Core.Bool.{false}
use mathlib.Core.List.{List}
use Prim.Native.Nat.{ℕ, zero, suc, ◌+◌, ◌-◌, ◌*◌, ◌≤◌, ◌<◌}
use lib.ListN.{length, get_or, set}
use lib.Seq.{paste, paste-zero, paste-suc, length-paste}
use native.Mathlib.Omega.{arith}
use native.Mathlib.Nat.{add-zero, add_assoc, le_refl}
use borrow.Author.Tests.{lt-ltb}
use Rattle.ways.specs.Sizes.{record_size}
use Rattle.pages.specs.Pages.{record_with}
use Rattle.pages.specs.declared.HandedOver.{HandedOver}
use Rattle.pages.proofs.Copying.{paste_set}
use Rattle.pages.proofs.Recording.{record_with_paste}
use Rattle.traces.specs.HandingOver.{Room, Handed}
use Rattle.traces.specs.declared.tracing.Purpose.TheVariants.{Count, Write}
use Rattle.traces.specs.declared.trace.Trace.{Trace}
use Rattle.traces.specs.declared.tracing.Tracing.{Tracing}

-- ---- a record is put together where it lies

-- several cells of what was pasted are set where they lie
paste_behind : (d : List ℕ) (at : ℕ) (s : List ℕ) (n a : ℕ) (t : List ℕ) (m : ℕ) → at + n ≤ length d → n ≤ length s → a + m ≤ n → m ≤ length t
    → paste (paste d at s n) (at + a) t m ≡ paste d at (paste s a t m) n
paste_behind d at s n a t zero hd hs ha ht = sym (paste-zero (paste d at s n) (at + a) t) ∙ ap (λ (r : List ℕ). paste d at r n) (paste-zero s a t)
paste_behind d at s n a t (suc m) hd hs ha ht =
    let long : length (paste d at s n) ≡ length d = length-paste d at s n hd hs in
    let short : length (paste s a t m) ≡ length s = length-paste s a t m (omega arith) (omega arith) in
    sym (paste-suc (paste d at s n) (at + a) t m 0 (omega (arith, long)) (omega arith))
    ∙ ap (λ (r : List ℕ). set r (at + a + m) (get_or t m 0)) (paste_behind d at s n a t m hd hs (omega arith) (omega arith))
    ∙ ap (λ (i : ℕ). set (paste d at (paste s a t m) n) i (get_or t m 0)) (add_assoc at a m)
    ∙ paste_set d at (paste s a t m) n (a + m) (get_or t m 0) (omega arith) (omega (arith, short)) (omega arith)
    ∙ ap (λ (r : List ℕ). paste d at r n) (paste-suc s a t m 0 (omega arith) (omega arith))

-- the chain's cells, those of the half chain behind them, and the hops
put_record : (out : List ℕ) (at : ℕ) (chain : List ℕ) (len : ℕ) (behind : List ℕ) → at + record_size ≤ length out → length chain ≡ record_size → len + length behind < record_size
    → set (paste (paste out at chain record_size) (at + (len + 1)) behind (length behind)) at (len + length behind - 1) ≡ paste out at (record_with chain len behind) record_size
put_record out at chain len behind fits long short =
    let whole = paste chain (len + 1) behind (length behind) in
    let size-whole : length whole ≡ record_size = length-paste chain (len + 1) behind (length behind) (omega arith) (le_refl (length behind)) ∙ long in
    let built : record_with chain len behind ≡ set whole 0 (len + length behind - 1) = record_with_paste chain len behind (omega arith) in
    ap (λ (o : List ℕ). set o at (len + length behind - 1)) (paste_behind out at chain record_size (len + 1) behind (length behind) fits (omega arith) (omega arith) (le_refl (length behind)))
    ∙ ap (λ (i : ℕ). set (paste out at whole record_size) i (len + length behind - 1)) (sym (add-zero at))
    ∙ paste_set out at whole record_size 0 (len + length behind - 1) (omega arith) (omega (arith, size-whole)) (omega arith)
    ∙ ap (λ (r : List ℕ). paste out at r record_size) (sym built)

module _ {w : Tracing} {out behind : List ℕ} {t : Trace} {before : HandedOver} (k : Room w out t behind before) where
  -- only counted
  pub hand_count : before.count < w.room → w.purpose ≡ Count → Handed w out out t behind before (record { count = before.count + 1; more = false })
  hand_count h z = record { right = rw (k.none, lt-ltb before.count w.room h, z) }

  hand_fits : before.count < w.room → before.count * record_size + record_size ≤ length out
  hand_fits h = omega (arith, k.room)

  -- written
  pub hand_put : {out' out'' : List ℕ} → before.count < w.room → w.purpose ≡ Write → out' ≡ paste out (before.count * record_size) t.chain record_size
      → out'' ≡ paste out' (before.count * record_size + (t.len + 1)) behind (length behind)
      → Handed w out (set out'' (before.count * record_size) (t.len + length behind - 1)) t behind before (record { count = before.count + 1; more = false })
  hand_put h n e f = record {
    right = rw (k.none, lt-ltb before.count w.room h, n, f, e, put_record out (before.count * record_size) t.chain t.len behind (hand_fits h) k.long k.short);
  }
