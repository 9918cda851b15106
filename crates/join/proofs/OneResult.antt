-- One result only: any two answers and any two states of the lent cells that the promise allows are equal. And what is joined is the listing.
use mathlib.Core.Path.{◌≡◌, refl, sym, ap, ◌∙◌}
use mathlib.Core.Bool.{Bool, true, false}
use mathlib.Core.Logic.{◌↔◌}
use mathlib.Core.List.{List}
use Prim.Native.Nat.{ℕ}
use native.Mathlib.Omega.{arith}
use lib.ListN.{length}
use lib.Seq.{take_all}
use borrow.Author.Tests.{leb-true}
use Rattle.refusals.specs.Faults.{Fault, sound, fault}
use Rattle.ways.specs.Graph.{◌∈◌}
use Rattle.ways.specs.Listing.{listing}
use Rattle.ways.specs.Records.{room_of, written}
use Rattle.ways.specs.Sizes.{record_size}
use Rattle.ways.proofs.ByHops.{by_hops_iff}
use Rattle.question.specs.declared.Question.{Question}
use Rattle.question.specs.Admission.{next}
use Rattle.join.specs.Lists.{chains_for, join_fault, first_ones, all_fit}
use Rattle.std.specs.Prelude.{Ok}
use Rattle.refusals.specs.Answers.{Told, listed, answer_for, cells_for}
use Rattle.join.specs.Answers.{JoinOf, Joins}
use Rattle.refusals.proofs.Answers.{answer_said_lem}

pub join_one : {first : Fault} {all_half_chains chains : List (List ℕ)} {working working₁ working₂ out out₁ out₂ : List ℕ} {a b : Told}
    → JoinOf first all_half_chains chains working working₁ out out₁ a → JoinOf first all_half_chains chains working working₂ out out₂ b → (a ≡ b) × (working₁ ≡ working₂) × (out₁ ≡ out₂)
join_one {a = a} {b} p q = (answer_said_lem a b (p.answers ∙ sym q.answers), p.shelf ∙ sym q.shelf, p.cells ∙ sym q.cells)

-- the joined list has exactly the members of the listing
pub join_members : (file : List ℕ) (q : Question) (c : List ℕ) → c ∈ chains_for file q ↔ c ∈ listing (next file q) q.from q.to q.hops
join_members file q c = by_hops_iff (next file q) q.from q.to q.hops c

-- so where a join answers that it was all, it has written the records of just these, and said how many
pub record Whole (file : List ℕ) (q : Question) (out out' : List ℕ) (count : ℕ) : Type 0 where
  pub chains : List (List ℕ)
  pub members : (c : List ℕ) → c ∈ chains ↔ c ∈ listing (next file q) q.from q.to q.hops
  pub all : count ≡ length chains
  pub cells : out' ≡ written record_size chains out

pub join_whole : (file : List ℕ) (q : Question) {working working' out out' : List ℕ} {count : ℕ} → Joins file q working working' out out' (Ok (record { count = count; ended = true })) → Whole file q out out' count
join_whole file q {working} {out = out} {out'} {count} j = go (join_fault file q working out) (all_fit (chains_for file q) out) refl j.answers j.cells
  where
    fits : all_fit (chains_for file q) out ≡ true → first_ones (chains_for file q) out ≡ chains_for file q
    fits e = take_all (room_of record_size (length out)) (chains_for file q) (leb-true (length (chains_for file q)) (room_of record_size (length out)) e)

    go : (first : Fault) (b : Bool) → all_fit (chains_for file q) out ≡ b → listed count true ≡ answer_for first (length (first_ones (chains_for file q) out)) b → out' ≡ cells_for first (first_ones (chains_for file q) out) out → Whole file q out out' count
    go sound true e a c = record { chains = chains_for file q; members = join_members file q; all = let n : count ≡ length (first_ones (chains_for file q) out) = cc in n ∙ ap length (fits e); cells = c ∙ ap (λ (l : List (List ℕ)). written record_size l out) (fits e) }
    go sound false e a c = let z : ◌≡◌ {A = ℕ} 0 1 = cc in absurd (omega arith)
    go (fault number place) b e a c = let z : ◌≡◌ {A = ℕ} 0 1 = cc in absurd (omega arith)
