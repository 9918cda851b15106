-- Loops that hand over piece by piece, and end once one more was noted: what they have handed over is all that they were to.
use mathlib.Core.Path.{◌≡◌, sym, ap, ◌∙◌}
use mathlib.Core.List.{List, [], ◌++◌, map, map-append, append-nil, append_assoc}
use mathlib.Core.Logic.{◌⊎◌, inl, inr}
use mathlib.Core.Bool.{Bool, true, false, false≢true}
use Prim.Native.Nat.{ℕ, zero, suc, ◌+◌, ◌≤◌}
use native.Mathlib.Omega.{arith}
use native.Mathlib.Numerals.{add-one}
use native.Mathlib.Decide.{dec_le}
use Rattle.pages.specs.Pages.{Page, emits}
use Rattle.pages.proofs.Handing.{emits-append, emits_more}

-- the loop has ended: there is no next piece, or one more was noted
abbrev pub Over : ℕ → ℕ → Page → Type 0
Over i n now = (n ≤ i) ⊎ (now.more ≡ true)

-- with nothing noted, there is no next piece
pub over_all : {i n : ℕ} (now : Page) → Over i n now → i ≤ n → now.more ≡ false → i ≡ n
over_all now (inl l) h z = omega arith
over_all now (inr m) h z = absurd (false≢true (sym z ∙ m))

-- ---- by what is still to come

module _ (records : List ℕ → List ℕ) (writes : Bool) (room : ℕ) (now : Page) {all : Page} where
  pub turn_on : {after : Page} (piece rest : List (List ℕ)) → emits writes room now (map records (piece ++ rest)) ≡ all → after ≡ emits writes room now (map records piece) → emits writes room after (map records rest) ≡ all
  turn_on piece rest e f = rw (f, ← emits-append, ← map-append) e

  pub turn_over : (rest : List (List ℕ)) → emits writes room now (map records rest) ≡ all → {i n : ℕ} → (n ≤ i → rest ≡ []) → Over i n now → now ≡ all
  unfolding emits
  turn_over rest e none (inl l) = rw (none l) at e
  turn_over rest e none (inr m) = sym (emits_more writes room now (map records rest) m) ∙ e

-- ---- by what came so far: all of i pieces and the next one are all of i + 1

module _ (all piece : ℕ → List (List ℕ)) (next : (i : ℕ) → all (suc i) ≡ all i ++ piece i) where
  pub further : (a b : ℕ) → a ≤ b → (rest : List (List ℕ)) × (all b ≡ all a ++ rest)
  further a zero h = let e : a ≡ 0 = omega arith in ([], ap all (sym e) ∙ sym (append-nil (all a)))
  further a (suc b) h = go (dec_le a b) (λ l. further a b l)
    where
      go : Dec (a ≤ b) → (a ≤ b → (rest : List (List ℕ)) × (all b ≡ all a ++ rest)) → (rest : List (List ℕ)) × (all (suc b) ≡ all a ++ rest)
      go (yes l) on = let r = on l in (r.0 ++ piece b, next b ∙ ap (λ (l : List (List ℕ)). l ++ piece b) r.1 ∙ append_assoc (all a) r.0 (piece b))
      go (no n) on = let e : a ≡ suc b = omega arith in ([], ap all (sym e) ∙ sym (append-nil (all a)))

  module _ (records : List ℕ → List ℕ) (writes : Bool) (room : ℕ) (start : Page) {now : Page} (i : ℕ) (right : now ≡ emits writes room start (map records (all i))) where
    pub turn_next : {after : Page} → after ≡ emits writes room now (map records (piece i)) → after ≡ emits writes room start (map records (all (i + 1)))
    turn_next e = rw (add-one i, next i, map-append, emits-append, ← right) e

    pub turn_end : {n : ℕ} → i ≤ n → Over i n now → now ≡ emits writes room start (map records (all n))
    turn_end {n} h (inl l) = let e : i ≡ n = omega arith in right ∙ ap (λ (k : ℕ). emits writes room start (map records (all k))) e
    turn_end {n} h (inr m) = let r = further i n h in rw (r.1, map-append, emits-append, ← right) (sym (emits_more writes room now (map records r.0) m))
