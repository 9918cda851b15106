-- The three demands, proved, of chains and of rings; the fewest hops, what a question's eighth number does, and what is told at the C door.
use mathlib.Core.Path.{◌≡◌}
use mathlib.Core.List.{List}
use Prim.Native.Nat.{ℕ}
use Rattle.refusals.specs.Faults.{sound}
use Rattle.question.specs.declared.Question.{Question}
use Rattle.question.specs.Asked.{asked_fault, rings_asked_fault}
use Rattle.demands.specs.Demands.{DemandOne, DemandTwo, DemandThree, RingsAsSaid, FewestAsSaid}
use Rattle.demands.specs.Undated.{UndatedAsSaid}
use Rattle.demands.specs.Door.{AtTheDoor}
use Rattle.demands.proofs.OneResult.{one_result}
use Rattle.demands.proofs.Ending.{every_ends, refusal_leaves}
use Rattle.demands.proofs.Paths as paths
use Rattle.demands.proofs.Laid as laid
use Rattle.demands.proofs.Rings as rings
use Rattle.demands.proofs.Fewest as fewest
use Rattle.demands.proofs.Undated as undated
use Rattle.demands.proofs.Door as door

-- whatever came in
pub demand_one : DemandOne
demand_one = record { ends = every_ends; nobody_checked = one_result; leaves = refusal_leaves }

-- wherever the file and the question pass
pub demand_two : (file : List ℕ) (q : Question) → asked_fault file q ≡ sound → DemandTwo file q
demand_two = paths.demand_two

pub demand_three : (file : List ℕ) (q : Question) → asked_fault file q ≡ sound → DemandThree file q
demand_three = laid.demand_three

-- wherever the file and the question for rings pass
pub rings_as_said : (file : List ℕ) (q : Question) → rings_asked_fault file q ≡ sound → RingsAsSaid file q
rings_as_said = rings.rings_as_said

pub fewest_as_said : FewestAsSaid
fewest_as_said = fewest.fewest_as_said

pub undated_as_said : UndatedAsSaid
undated_as_said = undated.undated_as_said

pub at_the_door : AtTheDoor
at_the_door = door.at_the_door
