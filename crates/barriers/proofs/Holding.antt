-- Barriers that hold: at first, while persons are entered, and when one is left.
use mathlib.Core.Path.{◌≡◌, refl, sym, ap, ◌∙◌}
use mathlib.Core.Bool.{Bool, true}
use mathlib.Core.List.Memᴰ
use mathlib.Core.List.{List, [], ◌∷◌}
use mathlib.Core.Logic.{⊎_elim, ◌⊎◌, inl, inr}
use Prim.Native.Nat.{ℕ, suc, ◌+◌, ◌≤◌, ◌<◌}
use lib.ListN.{length, get_or, set, length-set, get_or-eq_default}
use lib.Seq.{slice, get_or-set_same, get_or-set_other, ext_get_or}
use native.Mathlib.Omega.{arith}
use Rattle.ways.specs.Graph.{Graph}
use Rattle.ways.specs.Listing.{ways}
use Rattle.ways.specs.Fewest as least
use Rattle.ways.proofs.Cases.{same_or_not, lt_or_le}
use Rattle.ways.proofs.Barrier.{none_more, none_hops, pop_on}
use Rattle.ways.proofs.Members.{within-cons}
use Rattle.ways.proofs.Reach.{round_zero}
use Rattle.ways.proofs.Fewest.{fewest_cap, fewest_in, fewest_near, none_fewest}
use Rattle.compact.specs.Compact.{persons}
use Rattle.barriers.specs.Trail.{heights, unwind, Undoable, Raised}
use Rattle.barriers.specs.Barriers.{Hold, Kept, Barred}
use Rattle.barriers.specs.Settling.{Settling, Settled}
use Rattle.barriers.specs.Squeezing.{Squeezed}
use Rattle.barriers.proofs.Unwinding.{trailed_none, trailed_trans, trailed_shorter, trailed_undo}

-- ---- at first: the fewest hops hold, whoever was seen

module _ (g : Graph) (t k : ℕ) (fewest : List ℕ) (wide : length fewest ≡ persons) (exact : (p : ℕ) → p < persons → get_or fewest p 0 ≡ least.fewest g t k p) where
  pub fewest_hold : 1 ≤ k → k + 1 < heights → (seen : List ℕ) → Hold g t seen fewest
  fewest_hold one few seen = record {
    long = wide;
    low = λ v. ⊎_elim (λ l. omega (arith, exact v l, fewest_cap g t k v)) (λ l. omega (arith, none v l)) (lt_or_le v persons);
    sound = λ v j lt. ⊎_elim (λ l. none_fewest g t k j v (v ∷ seen) (rw (exact v l) at lt)) (λ l. absurd (omega (arith, none v l, lt))) (lt_or_le v persons);
    far = λ v l n. ⊎_elim (λ z. absurd (n ((round_zero g t v).0 (fewest_in g t k 0 v (omega arith) (omega (arith, exact v l, z)))))) (λ z. z) (lt_or_le (get_or fewest v 0) 1);
    near = λ v l n m. fewest_near g t k v one n (omega (arith, exact v l, m));
  }
    where
      none : (v : ℕ) → persons ≤ v → get_or fewest v 0 ≡ 0
      none v l = get_or-eq_default fewest 0 {n = v} (omega (arith, wide))

-- ---- barriers that were kept

kept_none : {h : ℕ} {barriers : List ℕ} → Kept h barriers barriers
kept_none = record { each = λ u. inl refl }

kept_trans : {h : ℕ} {a b c : List ℕ} → Kept h a b → Kept h b c → Kept h a c
kept_trans {h} {a} {b} {c} p q = record {
  each = λ u.
      ⊎_elim
      (λ e. ⊎_elim (λ d. inl (e ∙ d)) (λ l. inr (rw e l)) (p.each u))
      (λ l. inr l)
      (q.each u);
}

kept_up : {h k : ℕ} {a b : List ℕ} → h ≤ k → Kept h a b → Kept k a b
kept_up {h} {k} {a} {b} l p = record { each = λ u. ⊎_elim (λ e. inl e) (λ m. inr (omega (arith, m))) (p.each u) }

kept_set : {barriers : List ℕ} (v barrier : ℕ) → v < length barriers → Kept barrier barriers (set barriers v barrier)
kept_set {barriers} v barrier lv = record {
  each = λ u.
      ⊎_elim
      (λ e. inr (omega (arith, ap (λ (i : ℕ). get_or (set barriers v barrier) i 0) e, get_or-set_same barriers v barrier 0 lv)))
      (λ ne. inl (get_or-set_other barriers v u barrier 0 ne))
      (same_or_not u v);
}

module _ {g : Graph} {t : ℕ} {seen : List ℕ} where
  -- ---- while persons are entered

  pub barred_none : {h : ℕ} {barriers trail : List ℕ} {n : ℕ} → Hold g t seen barriers → n ≤ length trail → Barred g t seen h barriers barriers trail trail n n
  barred_none s l = record { hold = s; kept = kept_none; trailed = trailed_none l }

  pub barred_trans : {h : ℕ} {a b c ta tb tc : List ℕ} {na nb nc : ℕ} → Barred g t seen h a b ta tb na nb → Barred g t seen h b c tb tc nb nc → Barred g t seen h a c ta tc na nc
  barred_trans p q = record {
    hold = q.hold;
    kept = kept_trans p.kept q.kept;
    trailed = trailed_trans p.trailed q.trailed;
  }

  -- the trail was squeezed from where it began
  pub barred_squeezed : {h : ℕ} {a b b' ta tb tc : List ℕ} {na nb nc : ℕ} → Barred g t seen h a b ta tb na nb → Squeezed b b' tb tc na nb nc → Barred g t seen h a b' ta tc na nc
  barred_squeezed {b = b} {b'} p s =
      let same : b' ≡ b = ext_get_or 0 b' b (s.wide ∙ sym p.hold.long) (λ v h. s.same v (p.hold.low v)) in
      record { hold = rw same p.hold; kept = rw same p.kept; trailed = rw same (trailed_shorter p.trailed p.hold.low s.shorter) }

  pub barred_undoable : {h : ℕ} {a b ta tb : List ℕ} {na nb : ℕ} → Barred g t seen h a b ta tb na nb → Undoable b tb na nb
  barred_undoable p = record { wide = p.hold.long; rise = p.trailed.rise; fits = p.trailed.fits; entries = p.trailed.entries }

  -- once v is in the chain: that only takes ways away
  pub hold_push : {barriers : List ℕ} (v : ℕ) → Hold g t seen barriers → Hold g t (v ∷ seen) barriers
  hold_push v s = record {
    long = s.long;
    low = s.low;
    sound = λ u j lt. none_more g t j j u (u ∷ v ∷ seen) (u ∷ seen) (omega arith) (within-cons u (λ x m. Memᴰ.tail m)) (s.sound u j lt);
    far = s.far;
    near = s.near;
  }

  -- ---- when v is left with nothing found within h hops

  module _ {v h : ℕ} (dead : ways g t h (v ∷ seen) v ≡ []) where
    -- a way that a raised barrier denied while v was in the chain would lead through v, and its rest would be a way from v
    hold_pop : {barriers barriers' : List ℕ} → Hold g t seen barriers → Kept h barriers barriers' → Hold g t (v ∷ seen) barriers' → Hold g t seen barriers'
    hold_pop {barriers} {barriers'} s k s' = record {
      long = s'.long;
      low = s'.low;
      sound = λ u j lt.
          ⊎_elim
          (λ e. s.sound u j (rw e at lt))
          (λ m. pop_on g t h j u v seen (omega (arith, m, lt)) dead (s'.sound u j lt))
          (k.each u);
      far = s'.far;
      near = s'.near;
    }

    -- and v's own barrier is one more than those hops
    hold_set : {barriers : List ℕ} (barrier : ℕ) → v < persons → barrier ≤ suc h → 2 ≤ barrier → barrier < heights → Hold g t seen barriers → Hold g t seen (set barriers v barrier)
    hold_set {barriers} barrier lv lh two low s =
        let here : get_or (set barriers v barrier) v 0 ≡ barrier = get_or-set_same barriers v barrier 0 (omega (arith, s.long)) in
        let at : (u : ℕ) → ((get_or (set barriers v barrier) u 0 ≡ barrier) × (u ≡ v)) ⊎ (get_or (set barriers v barrier) u 0 ≡ get_or barriers u 0) = λ u. ⊎_elim (λ e. inl (ap (λ (i : ℕ). get_or (set barriers v barrier) i 0) e ∙ here, e)) (λ ne. inr (get_or-set_other barriers v u barrier 0 ne)) (same_or_not u v) in
        record {
          long = length-set barriers v barrier ∙ s.long;
          low = λ u. ⊎_elim (λ e. omega (arith, e.0)) (λ e. omega (arith, e, s.low u)) (at u);
          sound = λ u j lt. ⊎_elim (λ e. rw e.1 (none_hops g t j h v (v ∷ seen) (omega (arith, lt, e.0)) dead)) (λ e. s.sound u j (omega (arith, lt, e))) (at u);
          far = λ u l n. ⊎_elim (λ e. omega (arith, e.0)) (λ e. omega (arith, e, s.far u l n)) (at u);
          near = λ u l n m. ⊎_elim (λ e. absurd (omega (arith, e.0))) (λ e. s.near u l n (omega (arith, m, e))) (at u);
        }

-- ---- `settle`

module _ {barriers trail : List ℕ} {v left low high : ℕ} where
  -- v's barrier is raised
  pub settle_raised : {barriers' trail' : List ℕ} {barren : Bool} {n : ℕ} → Settling barriers trail v left low high → barren ≡ true → Raised barriers barriers' trail trail' v (left + 1) high n → Settled barriers barriers' trail trail' v left barren low high n
  settle_raised a said r = record {
    barred = λ {g} {t} {seen} {barriers₀} {trail₀} k dead.
        let s : Hold g t seen barriers = hold_pop (dead said) k.held k.since.kept k.since.hold in
        let kept : Kept (left + 1) barriers₀ barriers = kept_up (omega arith) k.since.kept in
        let lb : v < length barriers = omega (arith, a.place, s.long) in
        record {
          hold = ⊎_elim (λ e. rw e s) (λ e. rw e (hold_set (dead said) (left + 1) a.place (omega arith) (omega (arith, k.some)) a.new s)) r.only;
          kept = ⊎_elim (λ e. rw e kept) (λ e. rw e (kept_trans kept (kept_set v (left + 1) lb))) r.only;
          trailed = trailed_trans k.since.trailed r.trailed;
        };
  }

  -- all since v was entered is put back
  pub settle_undone : {barriers' : List ℕ} {barren : Bool} → barriers' ≡ unwind (slice low high trail) barriers → Settled barriers barriers' trail trail v left barren low high low
  settle_undone {barriers'} {barren} e = record {
    barred = λ {g} {t} {seen} {barriers₀} {trail₀} k dead.
        let back : barriers' ≡ barriers₀ = e ∙ k.since.trailed.back in
        record { hold = rw back k.held; kept = rw back kept_none; trailed = trailed_undo k.since.trailed e };
  }
