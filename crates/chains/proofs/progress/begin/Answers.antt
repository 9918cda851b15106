-- `begin` meets its contract: nothing is counted, and the start is fresh.
use mathlib.Core.Path.{refl}
use Rattle.chains.proofs.Looking.{begins}
use Rattle.chains.proofs.progress.begin.Goals as goal

pub returns : goal.returns
returns c = begins refl refl c.nothing.ensures
