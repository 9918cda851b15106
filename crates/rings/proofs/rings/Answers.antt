-- `rings` meets its contract: what the search lists where From is To are the rings.
use Rattle.question.specs.Asked.{rings_asked_fault}
use Rattle.listing.proofs.Answering.{listed_same}
use Rattle.rings.proofs.Instance.{rings_searched}
use Rattle.rings.proofs.rings.Goals as goal

pub returns : goal.returns
returns c =
    listed_same (rings_asked_fault c.args.file.now c.args.question) (λ passed. rings_searched c.args.file.now c.args.question passed) c.answer.ensures
