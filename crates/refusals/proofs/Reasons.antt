-- A reason has one number and a number one reason; so what a refusal says tells which it is.
use mathlib.Core.Path.{◌≡◌, refl, sym, ap, ◌∙◌}
use mathlib.Core.Bool.{Bool, true}
use mathlib.Core.List.{List, [], ◌∷◌}
use Prim.Native.Nat.{ℕ}
use lib.ListN.{get_or}
use lib.Dec.{eqb}
use borrow.Author.Tests.{eqb-true}
use Rattle.refusals.specs.Reasons.{number_of}
use Rattle.refusals.specs.Faults.{fault, Numbered}
use Rattle.refusals.proofs.Numbered.{all_pass, passes_each}
use Rattle.refusals.specs.declared.Refusal.{Refusal}
use Rattle.refusals.specs.declared.Reason as code

-- the reasons by their numbers
abbrev pub reasons : List code.Reason
reasons =
    code.TheVariants.TwoPersons
    ∷ code.TheVariants.Mark
    ∷ code.TheVariants.Counts
    ∷ code.TheVariants.Offsets
    ∷ code.TheVariants.Feed
    ∷ code.TheVariants.FeedMeaning
    ∷ code.TheVariants.Entry
    ∷ code.TheVariants.Link
    ∷ code.TheVariants.Kind
    ∷ code.TheVariants.Day
    ∷ code.TheVariants.Person
    ∷ code.TheVariants.OnePerson
    ∷ code.TheVariants.Hops
    ∷ code.TheVariants.Classes
    ∷ code.TheVariants.Meaning
    ∷ code.TheVariants.Window
    ∷ code.TheVariants.Output
    ∷ code.TheVariants.Bookmark
    ∷ code.TheVariants.Working
    ∷ code.TheVariants.Input
    ∷ code.TheVariants.Undated
    ∷ []

-- the reason that has this number
abbrev pub reason_of : ℕ → code.Reason
reason_of number = get_or reasons number code.TheVariants.TwoPersons

reason_back : (r : code.Reason) → reason_of (number_of r) ≡ r
reason_back code.TheVariants.Mark = refl
reason_back code.TheVariants.Counts = refl
reason_back code.TheVariants.Offsets = refl
reason_back code.TheVariants.Feed = refl
reason_back code.TheVariants.FeedMeaning = refl
reason_back code.TheVariants.Entry = refl
reason_back code.TheVariants.Link = refl
reason_back code.TheVariants.Kind = refl
reason_back code.TheVariants.Day = refl
reason_back code.TheVariants.Person = refl
reason_back code.TheVariants.OnePerson = refl
reason_back code.TheVariants.Hops = refl
reason_back code.TheVariants.Classes = refl
reason_back code.TheVariants.Meaning = refl
reason_back code.TheVariants.Window = refl
reason_back code.TheVariants.Output = refl
reason_back code.TheVariants.Bookmark = refl
reason_back code.TheVariants.Working = refl
reason_back code.TheVariants.Input = refl
reason_back code.TheVariants.Undated = refl
reason_back code.TheVariants.TwoPersons = refl

-- one number, one reason
pub number_of_lem : (a b : code.Reason) → number_of a ≡ number_of b → a ≡ b
number_of_lem a b e = sym (reason_back a) ∙ ap reason_of e ∙ reason_back b

-- whether a number has a reason
abbrev pub has_reason : ℕ → Bool
has_reason number = eqb (number_of (reason_of number)) number

-- a refusal with one of these numbers, each of which has a reason, and with a place of 32 bits, can be said
pub refusal_there : (numbers : List ℕ) → all_pass has_reason numbers ≡ true → {number place : ℕ} → Numbered numbers (fault number place) → (refusal : Refusal) × (number_of refusal.reason ≡ number) × (refusal.place ≡ place)
refusal_there numbers h {number} {place} n =
    (record { reason = reason_of number; place = place }, eqb-true (number_of (reason_of number)) number (passes_each has_reason numbers h n.0), refl)

-- a refusal is what it says
pub refusal_same : (a b : Refusal) → number_of a.reason ≡ number_of b.reason → a.place ≡ b.place → a ≡ b
refusal_same a b r p =
    ap (λ (x : code.Reason). record { reason = x; place = a.place }) (number_of_lem a.reason b.reason r)
    ∙ ap (λ (x : ℕ). record { reason = b.reason; place = x }) p
