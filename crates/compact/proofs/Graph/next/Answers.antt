-- `next` meets its contract: the part of the targets that is taken is the row.
use Rattle.ways.proofs.Parts.{part_slice}
use Rattle.compact.proofs.Graph.next.Goals as goal

pub returns : goal.returns
returns c = part_slice _ _ c.args.self.targets.now (c.args.self.compact.rise c.args.person c.requires)
