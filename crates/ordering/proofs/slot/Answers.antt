-- The slots that are left to search are halved each turn, as the rules do it (`Halving`).
-- Assumes nothing.
use Rattle.ordering.proofs.Halving.{begin, upper, lower, end}
use Rattle.ordering.proofs.slot.Goals as goal

pub loop-low-init : goal.loop-low-init
loop-low-init c = begin

pub loop-low-preserved-then-is_before : goal.loop-low-preserved-then-is_before
loop-low-preserved-then-is_before c = upper c.loop-low.invariant c.loop-low-test.true c.is_before.ensures c.if-is_before.true

pub loop-low-preserved : goal.loop-low-preserved
loop-low-preserved c = lower c.loop-low.invariant c.loop-low-test.true c.is_before.ensures c.if-is_before.false

pub returns : goal.returns
returns c = end c.loop-low.invariant c.loop-low-test.false
