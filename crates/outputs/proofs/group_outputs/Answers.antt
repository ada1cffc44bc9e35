-- `outputs::group_outputs` meets its contract.
-- Assumes nothing.
use Rattle.outputs.proofs.Writing.{no_room, room}
use native.Mathlib.Omega.{arith}
use Rattle.outputs.proofs.group_outputs.Goals as goal

pub returns-then-list-lt-LIST_NUMBERS : goal.returns-then-list-lt-LIST_NUMBERS
returns-then-list-lt-LIST_NUMBERS c = no_room _ c.args.list.now c.if-list-lt-LIST_NUMBERS.true

pub returns : goal.returns
returns c =
    let a = c.args in
    rw (room _ a.list.now c.if-list-lt-LIST_NUMBERS.false, ← c.members_of-m.ensures)
    (c.resolve.ensures.is a.members.now (omega (arith, c.all-1.given, c.lows-1.given)))
