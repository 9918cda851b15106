-- Whom a person's admitted links lead to: other persons of the file, strictly rising, and nobody from whoever is not in the file.
use mathlib.Core.Path.{◌≡◌, refl, sym}
use mathlib.Core.Logic.{◌⊎◌, inl, inr}
use mathlib.Core.Bool.{Bool, true, false, cond}
use mathlib.Core.List.Memᴰ
use mathlib.Core.List.{List, [], ◌∷◌, map}
use Prim.Native.Nat.{ℕ, zero, suc, ◌+◌, ◌-◌, ◌≤◌, ◌<◌}
use lib.Dec.{ltb}
use native.Mathlib.Omega.{arith}
use native.Mathlib.Decide.{dec_le}
use borrow.Author.Tests.{ltb-true, lt-ltb, le-ltb}
use Rattle.ways.specs.Graph.{◌∈◌, keep}
use Rattle.ways.specs.Order.{Rising}
use Rattle.ways.proofs.Members.{keep_from, keep_in}
use Rattle.ways.proofs.Rising.{Steps, steps_rising, rising_keep, rising_by}
use Rattle.format.specs.Format.{person_count, row, target}
use Rattle.checking.proofs.Passed.{Passed}
use Rattle.checking.proofs.Linked.{passed_link, passed_rises}
use Rattle.question.specs.Admission.{admitted, numbers_from, owned, next, AdmittedLink}
use Rattle.question.specs.declared.Question.{Question}

-- the persons that the admitted ones of so many links lead to
abbrev pub led : List ℕ → Question → ℕ → ℕ → List ℕ
led file q from count = map (target file) (keep (admitted file q) (numbers_from from count))

-- each of so many numbers from one on lies among them
pub numbers_lie : (from count : ℕ) {x : ℕ} → x ∈ numbers_from from count → (from ≤ x) × (x < from + count)
unfolding numbers_from
numbers_lie from zero m = absurd (Memᴰ.not-nil m)
numbers_lie from (suc count) {x} m = go (Memᴰ.cases_cons m) (λ i. numbers_lie (suc from) count i)
  where
    go : (x ≡ from) ⊎ (x ∈ numbers_from (suc from) count) → (x ∈ numbers_from (suc from) count → (suc from ≤ x) × (x < suc from + count)) → (from ≤ x) × (x < from + suc count)
    go (inl e) on = (omega arith, omega arith)
    go (inr i) on = let r = on i in (omega arith, omega arith)

-- what is kept of a rising run rises
module _ (f : ℕ → ℕ) (test : ℕ → Bool) where
  abbrev Lower : ℕ → ℕ → Type 0
  Lower l m = f l < f m

  run_steps : (from count : ℕ) → ((l : ℕ) → from ≤ l → suc l < from + count → f l < f (suc l)) → Steps Lower (numbers_from from count)
  unfolding numbers_from
  run_steps from zero s = tt
  run_steps from (suc zero) s = tt
  run_steps from (suc (suc count)) s = (s from (omega arith) (omega arith), run_steps (suc from) (suc count) (λ l a b. s l (omega arith) (omega arith)))

  kept_rising : (from count : ℕ) → ((l : ℕ) → from ≤ l → suc l < from + count → f l < f (suc l)) → Rising ◌<◌ (map f (keep test (numbers_from from count)))
  kept_rising from count s =
      let run = steps_rising Lower (λ x y z a b. omega arith) (numbers_from from count) (run_steps from count s) in
      rising_by Lower ◌<◌ f (keep test (numbers_from from count)) (rising_keep Lower test (numbers_from from count) run) (λ x y i j h. h)

-- whoever is next is so by an admitted link, and the other way round
pub next_led : (file : List ℕ) (q : Question) (person : ℕ) {v : ℕ} → v ∈ next file q person → AdmittedLink file q person v
unfolding next
next_led file q person {v} m = go (ltb person (person_count file)) refl m
  where
    go : (t : Bool) → ltb person (person_count file) ≡ t → v ∈ cond t (led file q (row file person) (row file (person + 1) - row file person)) [] → AdmittedLink file q person v
    go true e m =
        let r = Memᴰ.of_map (target file) (keep (admitted file q) (owned file person)) m in
        let k = keep_from (admitted file q) (owned file person) r.1 in
        let l = numbers_lie (row file person) (row file (person + 1) - row file person) k.0 in
        record { link = r.0; inside = ltb-true person (person_count file) e; low = l.0; high = omega arith; admits = k.1; leads = sym r.2 }
    go false e m = absurd (Memᴰ.not-nil m)

-- a number that lies among so many from one on is one of them
lie_numbers : (from count x : ℕ) → from ≤ x → x < from + count → x ∈ numbers_from from count
unfolding numbers_from
lie_numbers from zero x low high = absurd (omega arith)
lie_numbers from (suc count) x low high = go (dec_le (suc from) x) (λ l. lie_numbers (suc from) count x l (omega arith))
  where
    go : Dec (suc from ≤ x) → (suc from ≤ x → x ∈ numbers_from (suc from) count) → x ∈ from ∷ numbers_from (suc from) count
    go (yes l) on = Memᴰ.tail (on l)
    go (no n) on = let e : x ≡ from = omega arith in Memᴰ.head e

pub led_next : (file : List ℕ) (q : Question) (person : ℕ) {v : ℕ} → AdmittedLink file q person v → v ∈ next file q person
unfolding next
led_next file q person {v} l =
    let among = lie_numbers (row file person) (row file (person + 1) - row file person) l.link l.low (omega (arith, l.low, l.high)) in
    rw (lt-ltb person (person_count file) l.inside) (Memᴰ.cast l.leads (Memᴰ.map (target file) (keep_in (admitted file q) among l.admits)))

-- nobody from whoever is not in the file
pub next_none : (file : List ℕ) (q : Question) (person : ℕ) → person_count file ≤ person → next file q person ≡ []
unfolding next
next_none file q person h = rw (le-ltb person (person_count file) h)

pub next_some : (file : List ℕ) (q : Question) (person : ℕ) → person < person_count file → next file q person ≡ led file q (row file person) (row file (person + 1) - row file person)
unfolding next
next_some file q person h = rw (lt-ltb person (person_count file) h)

module _ {file : List ℕ} {n m f : ℕ} (p : Passed file n m f) (q : Question) where
  -- persons of the file
  pub next_below : (person : ℕ) {v : ℕ} → v ∈ next file q person → v < n
  next_below person {v} i =
      let l = next_led file q person i in
      let k = passed_link p person l.link (omega (arith, p.persons, l.inside)) l.low l.high in
      omega (arith, p.persons, k.person, l.leads)

  -- nobody is led to themselves
  pub next_other : (person : ℕ) → ¬ (person ∈ next file q person)
  next_other person i =
      let l = next_led file q person i in
      let k = passed_link p person l.link (omega (arith, p.persons, l.inside)) l.low l.high in
      k.other (sym l.leads)

  -- strictly rising
  pub next_rising : (person : ℕ) → Rising ◌<◌ (next file q person)
  unfolding next
  next_rising person = go (ltb person (person_count file)) refl
    where
      steps : person < n → (l : ℕ) → row file person ≤ l → suc l < row file person + (row file (person + 1) - row file person) → target file l < target file (suc l)
      steps h l low high =
          let back : suc l - 1 ≡ l = omega arith in
          rw back at (passed_rises p person (suc l) h (omega arith) (omega arith) (λ e. omega arith))

      go : (t : Bool) → ltb person (person_count file) ≡ t → Rising ◌<◌ (cond t (led file q (row file person) (row file (person + 1) - row file person)) [])
      go true e = kept_rising (target file) (admitted file q) (row file person) (row file (person + 1) - row file person) (steps (omega (arith, p.persons, ltb-true person (person_count file) e)))
      go false e = tt
