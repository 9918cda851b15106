-- `record_at` copies the record over all cells of its own.
use mathlib.Core.Path.{refl, ◌∙◌}
use lib.ListN.{drop, replicate}
use Rattle.ways.specs.Sizes.{record_size}
use Rattle.cells.proofs.Copying.{paste_whole}
use Rattle.pages.proofs.record_at.Goals as goal

pub returns : goal.returns
returns c =
    c.copy.ensures ∙ paste_whole (replicate record_size 0) (drop c.args.at c.args.cells.now) record_size refl
