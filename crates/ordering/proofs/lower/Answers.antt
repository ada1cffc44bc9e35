-- The numbers of the slots that the loop has passed are new.
-- Assumes nothing.
use mathlib.Core.Path.{◌∙◌}
use native.Mathlib.Omega.{arith}
use Rattle.ordering.proofs.Moved.{more, first_all}
use Rattle.rules.specs.Engine.{lower}
use Rattle.ordering.proofs.lower.Goals as goal

pub loop-place-preserved : goal.loop-place-preserved
loop-place-preserved c = more (lower c.args.at) c.loop-place.place-index c.args.order.now c.loop-place.order c.lowered.result c.loop-place.invariant (omega arith) c.lowered.ensures

pub returns : goal.returns
returns c = c.loop-place.invariant ∙ first_all (lower c.args.at) c.loop-place.place-index c.args.order.now (omega arith)
