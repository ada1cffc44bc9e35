-- The slot is sought before places get new numbers; the slots in front of n are then those of the order's rules.
-- Assumes nothing.
use Rattle.ordering.proofs.Moved.{take_map}
use Rattle.ordering.proofs.add.Goals as goal

pub returns : goal.returns
returns c =
    rw (← c.slot-s.ensures.0, ← take_map, ← c.raise.ensures) c.«open».ensures.0
