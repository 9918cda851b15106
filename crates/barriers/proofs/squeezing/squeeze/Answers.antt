-- `squeeze` keeps the first entries and takes the marks off again, or does nothing.
use Rattle.barriers.proofs.Firsts.{squeeze_done}
use Rattle.barriers.proofs.squeezing.squeeze.Goals as goal

pub returns : goal.returns
returns c = squeeze_done c.keep_firsts-n.ensures c.unmark_all.ensures
