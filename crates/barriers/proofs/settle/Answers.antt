-- `settle` raises or undoes: either way the barriers hold for those seen before v.
use Rattle.barriers.proofs.Holding.{settle_raised, settle_undone}
use Rattle.barriers.proofs.settle.Goals as goal

pub returns-then-barren : goal.returns-then-barren
returns-then-barren c =
    settle_raised c.requires c.if-barren.true c.raise.ensures

pub returns : goal.returns
returns c = settle_undone c.undo.ensures
