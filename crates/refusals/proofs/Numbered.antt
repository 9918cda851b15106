-- Whatever is found, its number is one of those that are given and its place within bounds: how that goes through looks laid one behind the other.
use mathlib.Core.Path.{◌≡◌, refl}
use mathlib.Core.Bool.{Bool, true, false, cond, false≢true}
use mathlib.Core.List.Memᴰ
use mathlib.Core.List.{List, [], ◌∷◌, ◌++◌}
use Prim.Native.Nat.{ℕ, zero, suc, ◌+◌, ◌≤◌, ◌<◌}
use native.Mathlib.Omega.{arith}
use lib.Dec.{leb}
use borrow.Author.Tests.{leb-true}
use Rattle.ways.specs.Graph.{◌∈◌}
use Rattle.ways.proofs.Members.{Within}
use Rattle.refusals.specs.Faults.{Fault, sound, fault, unless, first_of, first_among, Numbered}

-- a rule, and what is looked at where it holds
pub numbered_where : (numbers : List ℕ) (rule : Bool) (number place : ℕ) (after : Fault) → Numbered numbers (fault number place) → (rule ≡ true → Numbered numbers after) → Numbered numbers (unless rule number place after)
numbered_where numbers true number place after h rest = rest refl
numbered_where numbers false number place after h rest = h

pub numbered_unless : (numbers : List ℕ) (rule : Bool) (number place : ℕ) (after : Fault) → Numbered numbers (fault number place) → Numbered numbers after → Numbered numbers (unless rule number place after)
numbered_unless numbers rule number place after h rest = numbered_where numbers rule number place after h (λ holds. rest)

-- one of some numbers is one of more
pub numbered_more : (a b : List ℕ) → Within a b → (f : Fault) → Numbered a f → Numbered b f
numbered_more a b h sound i = tt
numbered_more a b h (fault number place) i = (h number i.0, i.1)

-- a look, and the next one where it finds nothing
pub numbered_then : (numbers : List ℕ) (a b : Fault) → Numbered numbers a → (a ≡ sound → Numbered numbers b) → Numbered numbers (first_of a b)
numbered_then numbers sound b h i = i refl
numbered_then numbers (fault number place) b h i = h

pub numbered_first : (numbers : List ℕ) (a b : Fault) → Numbered numbers a → Numbered numbers b → Numbered numbers (first_of a b)
numbered_first numbers a b h i = numbered_then numbers a b h (λ none. i)

-- two looks, each with numbers of its own
pub numbered_both : (one other : List ℕ) (a b : Fault) → Numbered one a → Numbered other b → Numbered (one ++ other) (first_of a b)
numbered_both one other a b h i = numbered_first (one ++ other) a b (numbered_more one (one ++ other) (λ x m. Memᴰ.append_left other m) a h) (numbered_more other (one ++ other) (λ x m. Memᴰ.append_right one m) b i)

pub numbered_among : (numbers : List ℕ) (look : ℕ → Fault) (from count : ℕ) → ((at : ℕ) → at < from + count → Numbered numbers (look at)) → Numbered numbers (first_among look from count)
unfolding first_among
numbered_among numbers look from zero h = tt
numbered_among numbers look from (suc count) h =
    numbered_first numbers (look from) (first_among look (suc from) count) (h from (omega arith)) (numbered_among numbers look (suc from) count (λ at below. h at (omega arith)))

-- each of these numbers passes a test
abbrev pub all_pass : (ℕ → Bool) → List ℕ → Bool
all_pass test [] = true
all_pass test (number ∷ numbers) = cond (test number) (all_pass test numbers) false

pub passes_each : (test : ℕ → Bool) (numbers : List ℕ) → all_pass test numbers ≡ true → {number : ℕ} → number ∈ numbers → test number ≡ true
passes_each test [] h {number = number} m = elim m [ ]
passes_each test (x ∷ numbers) h {number} m = go (test x) refl h m (λ r i. passes_each test numbers r i)
  where
    go : (fits : Bool) → test x ≡ fits → cond fits (all_pass test numbers) false ≡ true → number ∈ x ∷ numbers → (all_pass test numbers ≡ true → number ∈ numbers → test number ≡ true) → test number ≡ true
    go true e h (Memᴰ.head same) on = rw same e
    go true e h (Memᴰ.tail i) on = on h i
    go false e h m on = absurd (false≢true h)

-- none of these numbers is above a bound
abbrev pub up_to : ℕ → List ℕ → Bool
up_to bound numbers = all_pass (λ number. leb number bound) numbers

pub up_to_bounds : (bound : ℕ) (numbers : List ℕ) → up_to bound numbers ≡ true → {number : ℕ} → number ∈ numbers → number ≤ bound
up_to_bounds bound numbers h {number} m = leb-true number bound (passes_each (λ n. leb n bound) numbers h m)
