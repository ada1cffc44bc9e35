use borrow.Author.Rules.{rules}
use Rattle.undoing.proofs.Calls.{room_short, list_fits}
use Rattle.undoing.proofs.fit.Goals as goal

-- too little room
pub returns-then-room-needs : goal.returns-then-room-needs
returns-then-room-needs c = search (room_short, rules)

-- the list, written
pub returns : goal.returns
returns c = search (list_fits, rules)
