-- `links_fault` meets its contract. Each loop's invariant says what is still to be looked at, and that nothing was found yet.
use mathlib.Core.Path.{◌≡◌, refl, sym, ap, ◌∙◌}
use Prim.Native.Nat.{◌+◌}
use native.Mathlib.Omega.{arith}
use mathlib.Core.Bool.{true, false, false≢true}
use Rattle.std.specs.Prelude.{Result, Ok, Err, is_err}
use Rattle.refusals.specs.declared.Refusal.{Refusal}
use Rattle.refusals.specs.Faults.{fault_said}
use Rattle.refusals.proofs.Faults.{look_starts, look_on, look_stops, look_ends}
use Rattle.format.specs.Format.{person_count}
use Rattle.checking.specs.Checked.{owned_fault}
use Rattle.checking.proofs.Tabled.{rows_below, going_starts, going_finds, going_on}
use Rattle.checking.proofs.links.links_fault.Goals as goal

-- a look that answers no refusal has found nothing, and one that answers a refusal has found a fault
no_fault : (look : Result (Unit {0}) Refusal) → is_err look ≡ false → look ≡ Ok tt
no_fault (Ok nothing) e = refl
no_fault (Err refusal) e = cc

some_fault : (look : Result (Unit {0}) Refusal) → is_err look ≡ true → (refusal : Refusal) × (look ≡ Err refusal)
some_fault (Ok nothing) e = absurd (false≢true e)
some_fault (Err refusal) e = (refusal, refl)

pub persons-init : goal.persons-init
persons-init c = (refl, look_starts (owned_fault c.args.file.bytes.now) 0 (person_count c.args.file.bytes.now) (omega (arith, c.args.file.laid)))

pub loop-number-init : goal.loop-number-init
loop-number-init c = (c.persons.invariant.0, going_starts c.args.file.laid c.requires c.persons-test.true c.entry-end.ensures c.entry-start.ensures)

pub link-link-requires : goal.link-link-requires
link-link-requires c =
    omega (arith, c.loop-number-test.true, c.entry-end.ensures, rows_below c.args.file.laid c.requires (c.persons.owner + 1) (omega arith))

pub link_fault-found-requires : goal.link_fault-found-requires
link_fault-found-requires c =
    omega (arith, c.args.file.laid, c.loop-number-test.true, c.entry-end.ensures, rows_below c.args.file.laid c.requires (c.persons.owner + 1) (omega arith))

pub loop-number-preserved : goal.loop-number-preserved
loop-number-preserved c =
    let at-going = c.loop-number.invariant.1 in
    let none = no_fault c.link_fault-found.result (sym c.if-is_err.ensures.value) in
    (none, going_on at-going c.loop-number-test.true c.link-link.ensures (going_finds at-going c.args.file.laid c.link-link.ensures c.link_fault-found.ensures ∙ ap fault_said none))

pub persons-preserved : goal.persons-preserved
persons-preserved c = (c.loop-number.invariant.0, look_on c.persons.invariant.1 c.persons-test.true (sym (look_ends c.loop-number.invariant.1.looking c.loop-number-test.false)))

pub returns-after-persons : goal.returns-after-persons
returns-after-persons c =
    ap fault_said c.persons.invariant.0 ∙ look_ends c.persons.invariant.1 c.persons-test.false

pub returns-then-is_err : goal.returns-then-is_err
returns-then-is_err c =
    let at-going = c.loop-number.invariant.1 in
    let one = some_fault c.link_fault-found.result (sym c.if-is_err.ensures.value) in
    let finds = going_finds at-going c.args.file.laid c.link-link.ensures c.link_fault-found.ensures ∙ ap fault_said one.1 in
    ap fault_said one.1 ∙ look_stops c.persons.invariant.1 c.persons-test.true (sym (look_stops at-going.looking c.loop-number-test.true finds))
