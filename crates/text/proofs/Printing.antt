-- Printing in steps: what is still to come, laid behind what stands there already, is the whole text.
use mathlib.Core.Path.{◌≡◌, refl, sym, ap, ◌∙◌}
use mathlib.Core.List.{List, [], ◌∷◌, ◌++◌}
use Prim.Native.Nat.{ℕ, suc, ◌+◌, ◌≤◌}
use native.Mathlib.Omega.{arith}
use native.Mathlib.Nat.{add-zero}
use native.Mathlib.Numerals.{add-one}
use lib.ListN.{length, take, drop, set, length-append}
use lib.Seq.{sets, length-sets, sets-eq, paste, take-length, take_at, length-take-le}
use Rattle.text.specs.Printed.{Printed}

-- a run of stores in two parts
pub sets_append : (l : List ℕ) (i : ℕ) (a b : List ℕ) → sets l i (a ++ b) ≡ sets (sets l i a) (i + length a) b
sets_append l i [] b = rw add-zero
sets_append l i (x ∷ a) b =
    let e : suc i + length a ≡ i + suc (length a) = omega arith in
    rw (← e) (sets_append (set l i x) (suc i) a b)

pub record Printing (out₀ : List ℕ) (at : ℕ) (text out : List ℕ) (next : ℕ) (rest : List ℕ) : Type 0 where
  pub right : sets out next rest ≡ sets out₀ at text
  pub ends : next + length rest ≡ at + length text

pub starts : {out : List ℕ} {at : ℕ} {text : List ℕ} → Printing out at text out at text
starts = record { right = refl; ends = refl }

module _ {out₀ : List ℕ} {at : ℕ} {text out : List ℕ} {next : ℕ} where
  -- a byte more
  pub byte : {b : ℕ} {rest : List ℕ} → Printing out₀ at text out next (b ∷ rest) → Printing out₀ at text (set out next b) (next + 1) rest
  byte p = record { right = rw add-one p.right; ends = omega (arith, p.ends) }

  -- some text more
  pub part : {words rest out' : List ℕ} {next' : ℕ} → Printing out₀ at text out next (words ++ rest) → Printed out next words out' next' → Printing out₀ at text out' next' rest
  part {words} {rest} p q = record { right = rw (q.bytes, q.place, ← sets_append out next words rest) p.right; ends = rw q.place (omega (arith, p.ends, length-append words rest)) }

  -- nothing more
  pub done : Printing out₀ at text out next [] → Printed out₀ at text out next
  done p = record { bytes = p.right; place = omega (arith, p.ends) }

  -- the bytes are as many as they were
  pub same_bytes : {rest : List ℕ} → Printing out₀ at text out next rest → length out ≡ length out₀
  same_bytes {rest} p = sym (length-sets out next rest) ∙ ap length p.right ∙ length-sets out₀ at text

-- words that were copied
pub copied : {out : List ℕ} {at : ℕ} {words out' : List ℕ} → at + length words ≤ length out → out' ≡ paste out at words (length words) → Printed out at words out' (at + length words)
copied {out} {at} {words} fits e = record {
  bytes = e ∙ ap (λ (w : List ℕ). take at out ++ w ++ drop (at + length words) out) (take-length words) ∙ sym (sets-eq words out at fits);
  place = refl;
}

pub printed-length : {out : List ℕ} {at : ℕ} {text out' : List ℕ} {next : ℕ} → Printed out at text out' next → length out' ≡ length out
printed-length {out} {at} {text} p = ap length p.bytes ∙ length-sets out at text

-- one text behind another
pub behind : {out : List ℕ} {at : ℕ} {a out' : List ℕ} {next : ℕ} {b out'' : List ℕ} {next' : ℕ} → Printed out at a out' next → Printed out' next b out'' next' → Printed out at (a ++ b) out'' next'
behind {out} {at} {a} {out'} {next} {b} p q = record { bytes = rw (q.bytes, p.place, p.bytes) (sym (sets_append out at a b)); place = omega (arith, p.place, q.place, length-append a b) }

pub nothing : {out : List ℕ} {at : ℕ} → Printed out at [] out at
nothing {out} {at} = record { bytes = refl; place = omega arith }

pub one_byte : {out : List ℕ} {at b : ℕ} → Printed out at (b ∷ []) (set out at b) (at + 1)
one_byte = record { bytes = refl; place = omega arith }

pub two_bytes : {out : List ℕ} {at a b : ℕ} → Printed out at (a ∷ b ∷ []) (set (set out at a) (at + 1) b) (at + 2)
two_bytes = record { bytes = rw add-one; place = omega arith }

pub three_bytes : {out : List ℕ} {at a b d : ℕ} → Printed out at (a ∷ b ∷ d ∷ []) (set (set (set out at a) (at + 1) b) (at + 2) d) (at + 3)
three_bytes {out} {at} =
    let one : at + 1 ≡ suc at = omega arith in
    let two : at + 2 ≡ suc (suc at) = omega arith in
    record { bytes = rw (one, two); place = omega arith }

-- the same in other words: up to `next` stands what stood before the place, and then the text
pub printed-take : {out : List ℕ} {at : ℕ} {text out' : List ℕ} {next : ℕ} → Printed out at text out' next → next ≤ length out → take next out' ≡ take at out ++ text
printed-take {out} {at} {text} {out'} {next} p h =
    let fits : at + length text ≤ length out = omega (arith, p.place) in
    let l : length (take at out ++ text) ≡ next = length-append (take at out) text ∙ ap (λ (n : ℕ). n + length text) (length-take-le at out (omega arith)) ∙ sym p.place in
    ap (take next) (p.bytes ∙ sets-eq text out at fits) ∙ take_at (take at out ++ text) (drop (at + length text) out) next l
