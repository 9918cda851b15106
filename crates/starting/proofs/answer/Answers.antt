-- `answer` meets its contract: the refusals of file, question and output come before the rest.
use mathlib.Core.Path.{sym}
use lib.ListN.{length}
use Rattle.std.proofs.lemmas.Result.{err_from_is_err_and}
use Rattle.refusals.proofs.Room.{room_passes}
use Rattle.listing.proofs.Answering.{refused_first, nothing-first}
use Rattle.starting.proofs.answer.Goals as goal

pub returns-in_err-asked_room : goal.returns-in_err-asked_room
returns-in_err-asked_room c =
    let p = err_from_is_err_and c.from_residual.result c.from_residual.ensures.1 in
    rw (p.1, p.2) (refused_first (sym c.in_err-asked_room.ensures))

pub list-requires : goal.list-requires
list-requires c =
    let passed = room_passes _ _ (sym c.in_ok-asked_room.ensures) in
    record { wanted = c.args.wanted; asked = passed.0; room = passed.1 }

pub list-requires-in-Some : goal.list-requires-in-Some
list-requires-in-Some c =
    let passed = room_passes _ _ (sym c.in_ok-asked_room.ensures) in
    record { wanted = c.args.wanted; asked = passed.0; room = passed.1 }

pub returns-in-None : goal.returns-in-None
returns-in-None c =
    let passed = room_passes _ (length c.args.out.now) (sym c.in_ok-asked_room.ensures) in
    rw c.in-None.is (nothing-first passed.0 c.list.ensures)

pub returns-in-Some : goal.returns-in-Some
returns-in-Some c =
    let passed = room_passes _ (length c.args.out.now) (sym c.in_ok-asked_room.ensures) in
    rw c.in-Some.is (nothing-first passed.0 c.list-in-Some.ensures)
