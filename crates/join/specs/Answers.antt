-- The promise of the join. Definitions only.
use Rattle.std.specs.Prelude.{◌≡◌, List, ℕ, length}
use Rattle.ways.specs.Halves.{halves}
use Rattle.ways.specs.ByHops.{by_hops}
use Rattle.ways.specs.Sizes.{record_size}
use Rattle.compact.specs.declared.Graph as lent
use Rattle.compact.specs.Links.{links_of}
use Rattle.half_chains.specs.declared.sought.Sought.{Sought}
use Rattle.question.specs.declared.Question.{Question}
use Rattle.refusals.specs.Faults.{Fault}
use Rattle.refusals.specs.Answers.{Told, answer_said, answer_for, cells_for}
use Rattle.join.specs.Lists.{halves_for, chains_for, halves_fault, join_fault, first_ones, all_fit}

-- "the two answers are the portion's": listed, how many and whether that was all, or refused, number and place
-- a join of which this is the first fault, of any half chains and chains: the answer, all half chains in the working cells, and the first chains in
-- the output
pub record JoinOf (first : Fault) (all_half_chains chains : List (List ℕ)) (working working' out out' : List ℕ) (answer : Told) : Type 0 where
  pub answers : answer_said answer ≡ answer_for first (length (first_ones chains out)) (all_fit chains out)
  pub shelf : working' ≡ cells_for first all_half_chains working
  pub cells : out' ≡ cells_for first (first_ones chains out) out

-- join: those of a file and a question
abbrev pub Joins : List ℕ → Question → List ℕ → List ℕ → List ℕ → List ℕ → Told → Type 0
Joins file q working working' out out' answer = JoinOf (join_fault file q working out) (halves_for file q) (chains_for file q) working working' out out' answer

-- the same of a compact graph, between whom and of how many hops chains are sought
abbrev pub halves_in : lent.Graph → Sought → List (List ℕ)
halves_in graph sought = halves (links_of graph) sought.persons sought.from sought.to sought.hops

-- where 18 is all that is left to refuse
abbrev pub Answered : List (List ℕ) → List (List ℕ) → List ℕ → List ℕ → List ℕ → List ℕ → Told → Type 0
Answered all_half_chains chains working working' out out' answer = JoinOf (halves_fault record_size (length working) all_half_chains) all_half_chains chains working working' out out' answer

abbrev pub JoinsIn : lent.Graph → Sought → List ℕ → List ℕ → List ℕ → List ℕ → Told → Type 0
JoinsIn graph sought working working' out out' answer = Answered (halves_in graph sought) (by_hops (links_of graph) sought.from sought.to sought.hops) working working' out out' answer
