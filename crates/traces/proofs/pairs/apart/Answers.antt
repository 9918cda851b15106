-- Each cell is a person, and so has a mark.
use Rattle.std.proofs.iter.Serving.{serving}
use Rattle.compact.specs.Compact.{persons}
use Rattle.traces.proofs.Steps.{each_person}
use Rattle.traces.proofs.pairs.apart.Goals as goal

pub all-requires-clause-callable : goal.all-requires-clause-callable
all-requires-clause-callable c = grind (serving, each_person c.args.people.now persons c.requires)
