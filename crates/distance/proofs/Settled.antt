-- The rounds of the distance table: after the round of h hops everybody of at most h has their number, and the others are unknown.
use mathlib.Core.Path.{◌≡◌, refl, sym, ap, subst, ◌∙◌}
use mathlib.Core.Logic.{◌≢◌}
use mathlib.Core.Bool.{Bool, true, false, cond, false≢true}
use mathlib.Core.List.Memᴰ
use mathlib.Core.List.{List, [], ◌∷◌}
use Prim.Native.Nat.{ℕ, zero, suc, ◌+◌, ◌≤◌, ◌<◌}
use lib.ListN.{length, get_or, set, replicate, length-set, length-replicate, get_or-replicate}
use lib.Seq.{get_or-set_same, get_or-set_other}
use lib.Dec.{eqb, leb}
use native.Mathlib.Numerals.{add-one}
use native.Mathlib.Decide.{ℕ_discrete, dec_le}
use native.Mathlib.Omega.{arith}
use borrow.Author.Tests.{eqb-true, eq-eqb, ne_eqb, le-leb, lt-leb}
use Rattle.ways.specs.Graph.{◌∈◌}
use Rattle.ways.specs.Fewest.{fewest}
use Rattle.ways.proofs.Reach.{round_zero}
use Rattle.ways.proofs.Fewest.{fewest_end, fewest_cap, fewest_in, fewest_suc, fewest-next}
use Rattle.compact.specs.Compact.{persons, graph_of, Compact}
use Rattle.compact.proofs.Rows.{row_people}
use Rattle.distance.specs.Table.{Table, anybody, stepped, Stepped}
use Rattle.distance.specs.Inside.{Readable}

-- the number that the round of h hops shows for a person of d: unknown is k+1
abbrev pub shown : ℕ → ℕ → ℕ → ℕ
shown h k d = cond (leb d h) d (k + 1)

shown_near : (h k d : ℕ) → d ≤ h → shown h k d ≡ d
shown_near h k d l = rw (le-leb d h l)

shown_far : (h k d : ℕ) → h < d → shown h k d ≡ k + 1
shown_far h k d l = rw (lt-leb d h l)

-- the number h is shown for persons of h only
shown_only : (h k d : ℕ) → h < k → shown h k d ≡ h → d ≡ h
shown_only h k d l e = go (dec_le d h)
  where
    go : Dec (d ≤ h) → d ≡ h
    go (yes i) = sym (shown_near h k d i) ∙ e
    go (no n) = absurd (omega (arith, shown_far h k d (omega arith)))

-- somebody of a row has a cell that holds h, or nobody has
anybody_some : (cells : List ℕ) (h : ℕ) (row : List ℕ) → anybody cells h row ≡ true → (v : ℕ) × (v ∈ row) × (get_or cells v 0 ≡ h)
unfolding anybody
anybody_some cells h [] e = absurd (false≢true e)
anybody_some cells h (v ∷ row) e = go (eqb (get_or cells v 0) h) refl e (λ i. anybody_some cells h row i)
  where
    go : (t : Bool) → eqb (get_or cells v 0) h ≡ t → cond t true (anybody cells h row) ≡ true → (anybody cells h row ≡ true → (u : ℕ) × (u ∈ row) × (get_or cells u 0 ≡ h)) → (u : ℕ) × (u ∈ v ∷ row) × (get_or cells u 0 ≡ h)
    go true t e on = (v, Memᴰ.head refl, eqb-true (get_or cells v 0) h t)
    go false t e on = let r = on e in (r.0, Memᴰ.tail r.1, r.2)

anybody_none : (cells : List ℕ) (h : ℕ) {v : ℕ} {row : List ℕ} → v ∈ row → get_or cells v 0 ≡ h → anybody cells h row ≡ true
unfolding anybody
anybody_none cells h {v = v} (Memᴰ.head {x = x} e) is = rw (eq-eqb (get_or cells x 0) h (ap (λ (u : ℕ). get_or cells u 0) (sym e) ∙ is))
anybody_none cells h (Memᴰ.tail {x = x} m) is = go (eqb (get_or cells x 0) h) (anybody_none cells h m is)
  where
    go : (t : Bool) {rest : Bool} → rest ≡ true → cond t true rest ≡ true
    go true e = refl
    go false e = e

-- the fewest hops in a compact graph
abbrev pub far : List ℕ → List ℕ → ℕ → ℕ → ℕ → ℕ
far starts targets to k p = fewest (graph_of starts targets) to k p

-- the table after the round of h hops
pub record Rounds (starts targets : List ℕ) (to k h : ℕ) (cells : List ℕ) : Type 0 where
  pub size : length cells ≡ persons
  pub cell : (p : ℕ) → p < persons → get_or cells p 0 ≡ shown h k (far starts targets to k p)

-- all set to unknown at the start, but To
pub rounds_start : {starts targets : List ℕ} {to k : ℕ} → Readable to k → Rounds starts targets to k 0 (set (replicate persons (k + 1)) to 0)
rounds_start {starts} {targets} {to} {k} r = record {
  size = length-set (replicate persons (k + 1)) to 0 ∙ length-replicate persons (k + 1);
  cell = λ p l. go p l (ℕ_discrete p to);
}
  where
    away : (p : ℕ) → p ≢ to → Dec (far starts targets to k p ≤ 0) → 0 < far starts targets to k p
    away p n (yes z) = absurd (n ((round_zero (graph_of starts targets) to p).0 (fewest_in (graph_of starts targets) to k 0 p (omega arith) z)))
    away p n (no o) = omega arith

    go : (p : ℕ) → p < persons → Dec (p ≡ to) → get_or (set (replicate persons (k + 1)) to 0) p 0 ≡ shown 0 k (far starts targets to k p)
    go p l (yes e) =
        ap (λ (i : ℕ). get_or (set (replicate persons (k + 1)) to 0) i 0) e
        ∙ get_or-set_same (replicate persons (k + 1)) to 0 0 (omega (arith, r.end, length-replicate persons (k + 1)))
        ∙ sym (rw (fewest_end (graph_of starts targets) to k p e))
    go p l (no n) =
        get_or-set_other (replicate persons (k + 1)) to p 0 0 n
        ∙ get_or-replicate persons p (k + 1) 0 l
        ∙ sym (shown_far 0 k (far starts targets to k p) (away p n (dec_le (far starts targets to k p) 0)))

module _ {starts targets : List ℕ} {to k h : ℕ} {before : List ℕ} (compact : Compact starts targets) (l : h < k) (rounds : Rounds starts targets to k h before) where
  -- one round more
  pub rounds_next : {added : Bool} {after : List ℕ} → Stepped starts targets before k h added after → Rounds starts targets to k (h + 1) after
  rounds_next s = record {
    size = s.size;
    cell = λ p i. s.cell p i ∙ go p i (dec_le (far starts targets to k p) h) (anybody before h (graph_of starts targets p)) refl;
  }
    where
      -- somebody of h is shown as such, and nobody else is
      of_h : (v : ℕ) → v < persons → get_or before v 0 ≡ h → far starts targets to k v ≡ h
      of_h v i e = shown_only h k (far starts targets to k v) l (sym (rounds.cell v i) ∙ e)

      is_h : (v : ℕ) → v < persons → far starts targets to k v ≡ h → get_or before v 0 ≡ h
      is_h v i e = rounds.cell v i ∙ shown_near h k (far starts targets to k v) (omega arith) ∙ e

      go : (p : ℕ) → p < persons → Dec (far starts targets to k p ≤ h) → (found : Bool) → anybody before h (graph_of starts targets p) ≡ found → stepped starts targets before k h p ≡ shown (h + 1) k (far starts targets to k p)
      go p i (yes near) found f =
          let d : get_or before p 0 ≡ far starts targets to k p = rounds.cell p i ∙ shown_near h k (far starts targets to k p) near in
          rw (ne_eqb (get_or before p 0) (k + 1) (λ e. omega arith)) (d ∙ sym (shown_near (h + 1) k (far starts targets to k p) (omega arith)))
      go p i (no n) true f =
          let d : get_or before p 0 ≡ k + 1 = rounds.cell p i ∙ shown_far h k (far starts targets to k p) (omega arith) in
          let v = anybody_some before h (graph_of starts targets p) f in
          let e = fewest_suc (graph_of starts targets) to k h p v.0 v.1 (of_h v.0 (row_people p compact i v.1) v.2) (omega arith) in
          rw (eq-eqb (get_or before p 0) (k + 1) d, f) (sym (shown_near (h + 1) k (far starts targets to k p) (omega arith) ∙ e ∙ sym (add-one h)))
      go p i (no n) false f =
          let d : get_or before p 0 ≡ k + 1 = rounds.cell p i ∙ shown_far h k (far starts targets to k p) (omega arith) in
          rw (eq-eqb (get_or before p 0) (k + 1) d, f) (d ∙ sym (shown_far (h + 1) k (far starts targets to k p) (more (ℕ_discrete (far starts targets to k p) (suc h)))))
        where
          more : Dec (far starts targets to k p ≡ suc h) → h + 1 < far starts targets to k p
          more (yes e) =
              let v = fewest-next (graph_of starts targets) to k h p e l in
              absurd (false≢true (sym f ∙ anybody_none before h v.1 (is_h v.0 (row_people p compact i v.1) v.2)))
          more (no o) = omega arith

  -- a round that added nobody: nobody is farther than it, but out of reach
  calm : Rounds starts targets to k (h + 1) before → Table starts targets to k before
  calm again = record { size = rounds.size; cell = λ p i. go p i (dec_le (far starts targets to k p) h) (dec_le (far starts targets to k p) k) }
    where
      first : (p : ℕ) → p < persons → far starts targets to k p ≡ suc h → ⊥
      first p i e = omega (arith, rounds.cell p i ∙ shown_far h k (far starts targets to k p) (omega arith), again.cell p i ∙ shown_near (h + 1) k (far starts targets to k p) (omega arith))

      later : (j : ℕ) → h < j → j ≤ k → (p : ℕ) → p < persons → far starts targets to k p ≡ j → ⊥
      later zero a b p i e = omega arith
      later (suc j) a b p i e = step (ℕ_discrete h j) (λ c v o q. later j c (omega arith) v o q)
        where
          step : Dec (h ≡ j) → (h < j → (v : ℕ) → v < persons → far starts targets to k v ≡ j → ⊥) → ⊥
          step (yes s) on = first p i (e ∙ ap suc (sym s))
          step (no n) on = let v = fewest-next (graph_of starts targets) to k j p e b in on (omega arith) v.0 (row_people p compact i v.1) v.2

      go : (p : ℕ) → p < persons → Dec (far starts targets to k p ≤ h) → Dec (far starts targets to k p ≤ k) → get_or before p 0 ≡ far starts targets to k p
      go p i (yes near) d = rounds.cell p i ∙ shown_near h k (far starts targets to k p) near
      go p i (no n) (yes within) = absurd (later (far starts targets to k p) (omega arith) within p i refl)
      go p i (no n) (no o) =
          let out : k + 1 ≡ far starts targets to k p = omega (arith, fewest_cap (graph_of starts targets) to k p) in
          rounds.cell p i ∙ shown_far h k (far starts targets to k p) (omega arith) ∙ out

  pub rounds_calm : {added : Bool} {after : List ℕ} → Stepped starts targets before k h added after → added ≡ false → Table starts targets to k after
  rounds_calm s none = subst (Table starts targets to k) (sym (s.quiet none)) (calm (subst (Rounds starts targets to k (h + 1)) (s.quiet none) (rounds_next s)))

-- all rounds
pub rounds_end : {starts targets : List ℕ} {to k h : ℕ} {cells : List ℕ} → h ≡ k → Rounds starts targets to k h cells → Table starts targets to k cells
rounds_end {starts} {targets} {to} {k} {h} {cells} e rounds = record { size = rounds.size; cell = λ p i. go p i (dec_le (far starts targets to k p) h) }
  where
    go : (p : ℕ) → p < persons → Dec (far starts targets to k p ≤ h) → get_or cells p 0 ≡ far starts targets to k p
    go p i (yes near) = rounds.cell p i ∙ shown_near h k (far starts targets to k p) near
    go p i (no n) =
        let out : k + 1 ≡ far starts targets to k p = omega (arith, fewest_cap (graph_of starts targets) to k p) in
        rounds.cell p i ∙ shown_far h k (far starts targets to k p) (omega arith) ∙ out
