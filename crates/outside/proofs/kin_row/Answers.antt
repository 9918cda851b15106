-- `kin_row` meets its contract: the view's length is that of its bytes.
use mathlib.Core.Path.{ap}
use lib.ListN.{length}
use Rattle.outside.proofs.kin_row.Goals as goal

pub returns : goal.returns
returns c = ap length c.row.ensures.bytes
