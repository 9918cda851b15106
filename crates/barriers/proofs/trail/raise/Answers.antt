-- `raise` puts the old barrier on the trail, or changes nothing.
use Rattle.barriers.proofs.Unwinding.{raise_none, raise_set}
use Rattle.barriers.proofs.trail.raise.Goals as goal

pub returns-then-n-trail : goal.returns-then-n-trail
returns-then-n-trail c = raise_none c.requires

pub returns : goal.returns
returns c = raise_set c.requires c.if-n-trail.false c.from.ensures
