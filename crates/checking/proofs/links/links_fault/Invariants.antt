-- `links_fault` meets its contract. Each loop's invariant says what is still to be looked at, and that nothing was found yet.
use mathlib.Core.Path.{◌≡◌}
use Rattle.std.specs.Prelude.{Ok}
use Rattle.refusals.specs.Faults.{first_among}
use Rattle.refusals.proofs.Faults.{Looking}
use Rattle.format.specs.Format.{person_count}
use Rattle.checking.specs.Checked.{owned_fault}
use Rattle.checking.proofs.Tabled.{Going}
use Rattle.checking.proofs.links.links_fault.Given as goal

abbrev pub invariant-loop-number : goal.invariant-loop-number
invariant-loop-number l = (l.found ≡ Ok tt) × Going l.file.bytes.now l.owner l.end l.number l.before

abbrev pub invariant-persons : goal.invariant-persons
invariant-persons l = (l.found ≡ Ok tt) × Looking (owned_fault l.file.bytes.now) (first_among (owned_fault l.file.bytes.now) 0 (person_count l.file.bytes.now)) l.owner l.owner-end
