-- The slot is closed and what is left gets its new numbers, in the order of the rules.
-- Assumes nothing.
use Rattle.ordering.proofs.Moved.{take_map}
use Rattle.ordering.proofs.remove.Goals as goal

pub returns : goal.returns
returns c =
    rw (← c.own_slot-s.ensures.0, ← c.close.ensures.0, ← take_map, ← c.lower.ensures)
