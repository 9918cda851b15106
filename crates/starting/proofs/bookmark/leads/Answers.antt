-- `leads` meets its contract: the library looks through the person's row as the graph does, and whoever is no person has an empty one.
use mathlib.Core.Path.{◌∙◌}
use borrow.Author.Tests.{le-ltb}
use lib.Dec.{eqb}
use Rattle.std.proofs.Common.{rules}
use Rattle.std.proofs.lemmas.Iterator.{YieldsList-from_slice}
use Rattle.std.proofs.lemmas.Iterator.Search.{any_from_yields_List}
use Rattle.ways.specs.Graph.{among}
use Rattle.compact.specs.Compact.{persons}
use Rattle.compact.specs.Links.{links_of}
use Rattle.compact.proofs.Rows.{row_none}
use Rattle.cells.proofs.Seeking.{contains_among}
use Rattle.starting.proofs.bookmark.leads.Goals as goal

pub returns-then-from-lt-PERSONS : goal.returns-then-from-lt-PERSONS
returns-then-from-lt-PERSONS c =
    any_from_yields_List (λ target. eqb target c.args.next) _ _ _ c.any.ensures.ran (YieldsList-from_slice c.next.result.now c.iter.ensures.rest) (λ x b q k. search rules)
    ∙ rw c.next.ensures (contains_among c.args.next (links_of c.args.graph c.args.person))

pub returns-else-from-lt-PERSONS : goal.returns-else-from-lt-PERSONS
unfolding among
returns-else-from-lt-PERSONS c =
    rw (row_none c.args.person c.args.graph.compact c.if-from-lt-PERSONS.false) (le-ltb c.args.person persons c.if-from-lt-PERSONS.false)
