-- The half chains are counted, then written, and the chains gathered: each call gives what the next one asks.
use mathlib.Core.Path.{◌∙◌}
use borrow.Author.Tests.{not-true}
use Rattle.std.proofs.lemmas.Result.{err_from_is_err_and}
use Rattle.join.proofs.OverGraph.{graph_refused, graph_gather, graph_joined}
use Rattle.join.proofs.join_graph.Goals as goal

pub returns-in_err-unless : goal.returns-in_err-unless
returns-in_err-unless c =
    let p = err_from_is_err_and c.from_residual.result c.from_residual.ensures.1 in
    rw (p.1, p.2) (graph_refused c.requires c.shelve-counted.ensures c.in_err-unless.ensures.said)

pub gather-found-requires : goal.gather-found-requires
gather-found-requires c =
    let counts = c.shelve-counted in
    let writes = c.shelve in
    graph_gather c.requires counts.ensures (not-true _ c.in_ok-unless.ensures.passes) writes.ensures (writes.auto.index ∙ counts.auto.index)

pub returns : goal.returns
returns c =
    let counts = c.shelve-counted in
    let writes = c.shelve in
    graph_joined c.requires counts.ensures (not-true _ c.in_ok-unless.ensures.passes) writes.ensures (writes.auto.index ∙ counts.auto.index) c.gather-found.ensures
