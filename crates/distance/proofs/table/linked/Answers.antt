-- `linked` goes down from the last person.
use mathlib.Core.Path.{◌≡◌, sym, ◌∙◌}
use lib.ListN.{length}
use Rattle.std.proofs.Common.{rules}
use Rattle.std.proofs.lemmas.List.{nil_from_length}
use Rattle.distance.proofs.Linking.{linked_down}
use Rattle.distance.proofs.table.linked.Goals as goal

pub loop-person-preserved : goal.loop-person-preserved
loop-person-preserved c =
    let none : length c.next.result.now ≡ 0 = search (rules, c.is_empty.ensures, c.if-not-is_empty.false) in
    linked_down c.loop-person.invariant c.loop-person-test.true (sym c.next.ensures ∙ nil_from_length c.next.result.now none)
