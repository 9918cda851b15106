-- `joined` meets its contract: the graph is the question's, and so what is joined over it is the promise.
use mathlib.Core.Path.{refl}
use Rattle.question.proofs.Growing.{zeros_fillable}
use Rattle.join.proofs.Public.{join_asked, join_seeking, join_joins}
use Rattle.join.proofs.joined.Goals as goal

pub fill-requires : goal.fill-requires
fill-requires c =
    zeros_fillable (join_asked c.args.file.now c.args.question c.args.out.now c.requires).faultless

pub counts-counts-requires : goal.counts-counts-requires
counts-counts-requires c =
    let p = (join_asked c.args.file.now c.args.question c.args.out.now c.requires).rules in record { mark = p.marks; counts = p.fits; layout = p.lays }

pub join_graph-requires : goal.join_graph-requires
join_graph-requires c =
    join_seeking c.args.file.now c.args.question c.args.out.now c.requires c.fill.ensures c.counts-counts.ensures refl refl

pub returns : goal.returns
returns c =
    join_joins c.args.file.now c.args.question c.args.out.now c.requires c.fill.ensures c.counts-counts.ensures c.join_graph.ensures
