-- The face: what it hands down is as the cycle asks, and what comes back is the portion.
use Rattle.search.proofs.Face.{list_ready, list_answered}
use Rattle.search.proofs.list.Goals as goal

pub go_through-more-requires : goal.go_through-more-requires
go_through-more-requires c =
    list_ready c.requires _ _

pub returns : goal.returns
returns c =
    list_answered c.requires c.go_through-more.ensures
