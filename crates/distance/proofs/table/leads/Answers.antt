-- `leads` meets its contract: each target of the row is a person, and the library looks where the definition does.
use mathlib.Core.Path.{refl, ◌∙◌}
use lib.Dec.{eqb}
use lib.ListN.{length, get_or}
use Prim.Native.Nat.{ℕ, ◌<◌}
use Rattle.std.proofs.iter.Serving.{serving}
use Rattle.std.proofs.Common.{rules}
use Rattle.std.proofs.lemmas.Iterator.{YieldsList-from_slice}
use Rattle.std.proofs.lemmas.Iterator.Search.{any_from_yields_List}
use Rattle.compact.specs.Links.{links_of}
use Rattle.distance.proofs.Looking.{row_person, any_anybody}
use Rattle.distance.proofs.table.leads.Goals as goal

pub any-requires-clause-callable : goal.any-requires-clause-callable
any-requires-clause-callable c =
    let inside : (i d : ℕ) → i < length c.next.result.now → get_or c.next.result.now i d < 1024 = λ i d l. rw c.next.ensures (row_person c.args.person i d c.args.graph.compact c.requires (rw c.next.ensures at l)) in
    grind (serving, inside)

pub returns : goal.returns
returns c =
    any_from_yields_List (λ v. eqb (get_or c.args.cells.now v 0) c.args.hops) _ _ _ c.any.ensures.ran (YieldsList-from_slice c.next.result.now c.iter.ensures.rest) (λ x b q k. search rules)
    ∙ rw (c.next.ensures, any_anybody c.args.cells.now c.args.hops (links_of c.args.graph c.args.person)) refl
