-- `beside`: one law for each answer.
use Rattle.search.proofs.Resuming.{beside_loose, beside_next}
use Rattle.search.proofs.bookmark.beside.Goals as goal

pub returns-in_default : goal.returns-in_default
returns-in_default c = rw c.in_default.is beside_loose

pub returns : goal.returns
returns c = rw c.in-Some.is (beside_next _ (c.requires.begins _ c.in-Some.is) c.args.v c.cmp.result c.cmp.ensures)
