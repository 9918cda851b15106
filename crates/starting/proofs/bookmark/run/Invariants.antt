-- `run` meets its contract: what runs on from the present person decides.
use mathlib.Core.Path.{◌≡◌}
use lib.ListN.{drop}
use Rattle.compact.specs.Links.{links_of}
use Rattle.starting.specs.Bookmark.{runs}
use Rattle.starting.proofs.bookmark.run.Given as goal

abbrev pub invariant-loop-at : goal.invariant-loop-at
invariant-loop-at l = runs (links_of l.graph) l.to l.way ≡ runs (links_of l.graph) l.to (drop l.at l.way)
