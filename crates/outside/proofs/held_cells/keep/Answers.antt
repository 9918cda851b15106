-- `keep` meets its contract: started, and the record behind it.
use mathlib.Core.Path.{◌∙◌}
use native.Mathlib.Omega.{arith}
use lib.ListN.{length-set}
use Rattle.outside.proofs.HeldCells.{put_behind}
use Rattle.ways.specs.Sizes.{record_size}
use Rattle.outside.specs.HeldCells.{numbers_in}
use Rattle.outside.proofs.held_cells.keep.Goals as goal

pub put-requires : goal.put-requires
put-requires c = simp length-set (omega (arith, c.requires))

pub shape_of-lent : goal.shape_of-lent
shape_of-lent c =
    c.put.auto.out ∙ length-set c.args.lent.now (numbers_in c.args.lent.now) c.args.held.started

pub returns : goal.returns
returns c =
    c.put.ensures ∙ put_behind c.args.lent.now c.args.held.«record» c.args.held.started (numbers_in c.args.lent.now) record_size (omega (arith, c.requires))
