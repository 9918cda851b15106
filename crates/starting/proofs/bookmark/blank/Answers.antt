-- `blank` meets its contract: the library looks for zeros where the definition does.
use mathlib.Core.Path.{◌∙◌}
use lib.Dec.{eqb}
use Rattle.std.proofs.Common.{rules}
use Rattle.std.proofs.lemmas.Iterator.{YieldsList-from_slice}
use Rattle.std.proofs.lemmas.Iterator.Search.{all_from_yields_List}
use Rattle.starting.proofs.Cells.{all_zeros}
use Rattle.starting.proofs.bookmark.blank.Goals as goal

pub returns : goal.returns
returns c =
    all_from_yields_List (λ cell. eqb cell 0) _ _ _ c.all.ensures.ran (YieldsList-from_slice c.args.cells.now c.iter.ensures.rest) (λ x b q k. search rules)
    ∙ all_zeros c.args.cells.now
