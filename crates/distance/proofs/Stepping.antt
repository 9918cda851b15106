-- A round, person by person: the cells that it has set do not disturb it.
use mathlib.Core.Path.{◌≡◌, refl, sym, ap, ◌∙◌}
use mathlib.Core.Bool.{Bool, true, false, ◌&&◌, cond, false≢true}
use mathlib.Core.List.{List, [], ◌∷◌}
use Prim.Native.Nat.{ℕ, ◌+◌, ◌≤◌, ◌<◌}
use lib.ListN.{length, get_or, set, length-set}
use lib.Seq.{get_or-set_same, get_or-set_other}
use lib.Dec.{eqb}
use native.Mathlib.Decide.{ℕ_discrete, dec_lt}
use native.Mathlib.Omega.{arith}
use borrow.Author.Tests.{eqb-true, eq-eqb, ne_eqb}
use Rattle.compact.specs.Compact.{persons, graph_of}
use Rattle.distance.specs.Table.{anybody, stepped, Stepped}
use Rattle.distance.specs.Inside.{NobodyBehind, Rounding}

-- A round so far: the persons before this one are settled, the others are as they were.
pub record Stepping (starts targets before : List ℕ) (k h person : ℕ) (added : Bool) (cells : List ℕ) : Type 0 where
  pub size : length cells ≡ persons
  pub done : (p : ℕ) → p < person → get_or cells p 0 ≡ stepped starts targets before k h p
  pub still : (p : ℕ) → person ≤ p → get_or cells p 0 ≡ get_or before p 0
  pub quiet : added ≡ false → cells ≡ before

pub stepping_starts : {starts targets before : List ℕ} {k h : ℕ} → length before ≡ persons → Stepping starts targets before k h 0 false before
stepping_starts long = record { size = long; done = λ p l. absurd (omega arith); still = λ p l. refl; quiet = λ e. refl }

-- two tables that show h for the same persons
same_anybody : (a b : List ℕ) (h : ℕ) → ((v : ℕ) → eqb (get_or a v 0) h ≡ eqb (get_or b v 0) h) → (row : List ℕ) → anybody a h row ≡ anybody b h row
unfolding anybody
same_anybody a b h s [] = refl
same_anybody a b h s (v ∷ row) = rw (s v, same_anybody a b h s row)

-- with no link a round leaves a cell as it is
leads_nowhere : (cells : List ℕ) (h : ℕ) (unknown : Bool) (a b : ℕ) → cond (unknown && anybody cells h []) a b ≡ b
unfolding anybody
leads_nowhere cells h true a b = refl
leads_nowhere cells h false a b = refl

module _ {starts targets before : List ℕ} {k h : ℕ} (r : Rounding k h) {person : ℕ} {added : Bool} {cells : List ℕ} (s : Stepping starts targets before k h person added cells) where
  -- what the round has set holds neither h nor, before, held it
  same_test : (v : ℕ) → eqb (get_or cells v 0) h ≡ eqb (get_or before v 0) h
  same_test v = go (dec_lt v person)
    where
      either : (a b : Bool) → eqb (get_or before v 0) (k + 1) ≡ a → get_or cells v 0 ≡ cond (a && b) (h + 1) (get_or before v 0) → eqb (get_or cells v 0) h ≡ eqb (get_or before v 0) h
      either true true was is =
          let unknown = eqb-true (get_or before v 0) (k + 1) was in
          ne_eqb (get_or cells v 0) h (λ e. omega arith) ∙ sym (ne_eqb (get_or before v 0) h (λ e. omega (arith, r.further)))
      either true false was is = ap (λ (c : ℕ). eqb c h) is
      either false b was is = ap (λ (c : ℕ). eqb c h) is

      go : Dec (v < person) → eqb (get_or cells v 0) h ≡ eqb (get_or before v 0) h
      go (yes l) = either (eqb (get_or before v 0) (k + 1)) (anybody before h (graph_of starts targets v)) refl (s.done v l)
      go (no n) = ap (λ (c : ℕ). eqb c h) (s.still v (omega arith))

  -- one cell more is settled
  settles : {cells' : List ℕ} {added' : Bool} → person < persons → length cells' ≡ length cells → ((p : ℕ) → (p ≡ person → ⊥) → get_or cells' p 0 ≡ get_or cells p 0) → get_or cells' person 0 ≡ stepped starts targets before k h person → (added' ≡ false → cells' ≡ before)
      → Stepping starts targets before k h (person + 1) added' cells'
  settles {cells'} l long others own calm = record {
    size = long ∙ s.size;
    done = λ p i. done p i (ℕ_discrete p person);
    still = λ p i. others p (λ e. omega arith) ∙ s.still p (omega arith);
    quiet = calm;
  }
    where
      done : (p : ℕ) → p < person + 1 → Dec (p ≡ person) → get_or cells' p 0 ≡ stepped starts targets before k h p
      done p i (yes e) = rw e own
      done p i (no n) = others p n ∙ s.done p (omega arith)

  module _ (l : person < persons) where
    here : get_or cells person 0 ≡ get_or before person 0
    here = s.still person (omega arith)

    -- whether the person is unknown, and leads to somebody of h, by the table before the round
    was : get_or cells person 0 ≡ k + 1 → eqb (get_or before person 0) (k + 1) ≡ true
    was unknown = eq-eqb (get_or before person 0) (k + 1) (sym here ∙ unknown)

    looked : {found : Bool} → found ≡ anybody cells h (graph_of starts targets person) → anybody before h (graph_of starts targets person) ≡ found
    looked f = sym (f ∙ same_anybody cells before h same_test (graph_of starts targets person))

    module _ {cells' : List ℕ} {added' : Bool} where
      pub stepping_known : (get_or cells person 0 ≡ k + 1 → ⊥) → cells' ≡ cells → added' ≡ added → Stepping starts targets before k h (person + 1) added' cells'
      stepping_known n c a = rw (c, a) (settles l refl (λ p i. refl) (here ∙ rw (ne_eqb (get_or before person 0) (k + 1) (λ e. n (here ∙ e)))) s.quiet)

      module _ (unknown : get_or cells person 0 ≡ k + 1) {found : Bool} (f : found ≡ anybody cells h (graph_of starts targets person)) where
        pub stepping_left : found ≡ false → cells' ≡ cells → added' ≡ added → Stepping starts targets before k h (person + 1) added' cells'
        stepping_left e c a = rw (c, a) (settles l refl (λ p i. refl) (here ∙ rw (was unknown, looked f ∙ e)) s.quiet)

        pub stepping_added : found ≡ true → cells' ≡ set cells person (h + 1) → added' ≡ true → Stepping starts targets before k h (person + 1) added' cells'
        stepping_added e c a =
            rw (c, a)
            (settles l (length-set cells person (h + 1)) (λ p i. get_or-set_other cells person p (h + 1) 0 i)
            (get_or-set_same cells person (h + 1) 0 (omega (arith, s.size)) ∙ rw (was unknown, looked f ∙ e))
            (λ t. absurd (false≢true (sym t))))

  -- whoever stands behind all who have a link leads to nobody, and stays as before
  pub stepping_ends : {people : ℕ} → NobodyBehind (graph_of starts targets) people → people ≤ person → Stepped starts targets before k h added cells
  stepping_ends n l = record { size = s.size; cell = λ p i. cell p i (dec_lt p person); quiet = s.quiet }
    where
      cell : (p : ℕ) → p < persons → Dec (p < person) → get_or cells p 0 ≡ stepped starts targets before k h p
      cell p i (yes d) = s.done p d
      cell p i (no d) = s.still p (omega arith) ∙ rw (n.none p (omega (arith, l)) i) (sym (leads_nowhere before h (eqb (get_or before p 0) (k + 1)) (h + 1) (get_or before p 0)))
