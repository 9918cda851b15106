-- The half chains and the chains of a file and a question, and when a join is refused. Definitions only.
use Rattle.std.specs.Prelude.{List, [], ◌∷◌, ◌++◌, Bool, ℕ, length, take, leb}
use Rattle.format.specs.Format.{person_count}
use Rattle.refusals.specs.Faults.{Fault, sound, unless, first_of}
use Rattle.refusals.specs.Answers.{room_fault}
use Rattle.ways.specs.Records.{room_of}
use Rattle.ways.specs.ByHops.{by_hops}
use Rattle.ways.specs.Halves.{halves, halves_fit}
use Rattle.ways.specs.Sizes.{record_size}
use Rattle.question.specs.declared.Question.{Question}
use Rattle.question.specs.Asked.{asked_fault, asked_numbers}
use Rattle.question.specs.Admission.{next}

-- the half chains: "the simple admitted sequences of 0 to k/2 hops (rounded down) ending at To and not visiting From, also
-- (To) alone", shorter first, then in dictionary order
abbrev pub halves_for : List ℕ → Question → List (List ℕ)
halves_for file q = halves (next file q) (person_count file) q.from q.to q.hops

-- the chains, "shorter first, then dictionary order"
abbrev pub chains_for : List ℕ → Question → List (List ℕ)
chains_for file q = by_hops (next file q) q.from q.to q.hops

-- 18: working cells hold fewer records than there are half chains
abbrev pub halves_fault : ℕ → ℕ → List (List ℕ) → Fault
halves_fault size cells all_half_chains = unless (halves_fit size cells all_half_chains) 18 0 sound

-- the first refusal of a join: 1 to 9, 10 to 15, 20, 16, 18
abbrev pub join_fault : List ℕ → Question → List ℕ → List ℕ → Fault
join_fault file q working out = first_of (asked_fault file q) (room_fault (length out) (halves_fault record_size (length working) (halves_for file q)))

abbrev pub join_numbers : List ℕ
join_numbers = asked_numbers ++ (16 ∷ 18 ∷ [])

-- "the first r chains, or all if fewer"
abbrev pub first_ones : List (List ℕ) → List ℕ → List (List ℕ)
first_ones chains out = take (room_of record_size (length out)) chains

-- whether that was all
abbrev pub all_fit : List (List ℕ) → List ℕ → Bool
all_fit chains out = leb (length chains) (room_of record_size (length out))
