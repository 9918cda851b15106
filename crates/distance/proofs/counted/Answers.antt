-- `counted` meets its contract: the table's cell is the fewest hops in the compact graph, which reads as `next`.
use mathlib.Core.Path.{ap, fun_ext, ◌∙◌}
use native.Mathlib.Omega.{arith}
use Rattle.ways.specs.Graph.{Graph}
use Rattle.ways.specs.Fewest.{fewest}
use Rattle.question.proofs.Answerable.{asked_of_answerable}
use Rattle.question.proofs.Growing.{zeros_fillable}
use Rattle.distance.proofs.counted.Goals as goal

pub fill-requires : goal.fill-requires
fill-requires c =
    zeros_fillable (asked_of_answerable c.args.file.now c.args.question c.args.person c.requires).0.faultless

pub overflow_cast-question-2 : goal.overflow_cast-question-2
overflow_cast-question-2 c =
    let a = asked_of_answerable c.args.file.now c.args.question c.args.person c.requires in omega (arith, a.0.proper.most)

pub distances-cells-requires : goal.distances-cells-requires
distances-cells-requires c =
    let a = asked_of_answerable c.args.file.now c.args.question c.args.person c.requires in
    record { end = a.0.to; hops = a.0.proper.most }

pub bounds-cells-person : goal.bounds-cells-person
bounds-cells-person c =
    (asked_of_answerable c.args.file.now c.args.question c.args.person c.requires).1

pub returns : goal.returns
returns c =
    let a = asked_of_answerable c.args.file.now c.args.question c.args.person c.requires in
    c.from.ensures
    ∙ c.distances-cells.ensures.cell c.args.person a.1
    ∙ ap (λ (g : Graph). fewest g c.args.question.to c.args.question.hops c.args.person) (fun_ext c.fill.ensures.graph)
