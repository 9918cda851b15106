-- `hand_over` copies the chain and sets the last cells where they lie; or notes one more.
use Rattle.search.proofs.Writing.{hand_put}
use Rattle.search.proofs.walk.Walk.hand_over.Goals as goal

pub returns : goal.returns
returns c = hand_put c.requires c.if-count-self.false c.put.ensures
