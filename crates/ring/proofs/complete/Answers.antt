use borrow.Author.Tests.{lt-ltb, le-ltb}
use Rattle.rules.specs.Ring.{complete_effect}
use Rattle.ring.proofs.complete.Goals as goal

pub returns-then-r-ge-MAX_CREDITS : goal.returns-then-r-ge-MAX_CREDITS
returns-then-r-ge-MAX_CREDITS c = rw (le-ltb _ _ c.if-r-ge-MAX_CREDITS.true)

pub returns : goal.returns
unfolding complete_effect
returns c = rw (lt-ltb _ _ c.if-r-ge-MAX_CREDITS.false, ← c.next_slot.ensures)
