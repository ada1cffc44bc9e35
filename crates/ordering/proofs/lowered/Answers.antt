-- The test goes as the rule does.
-- Assumes nothing.
use borrow.Author.Tests.{lt-ltb, le-ltb}
use Rattle.rules.specs.Engine.{lower}
use Rattle.ordering.proofs.lowered.Goals as goal

pub returns-then-at-x : goal.returns-then-at-x
unfolding lower
returns-then-at-x c = simp (lt-ltb _ _ c.if-at-x.true)

pub returns-else-at-x : goal.returns-else-at-x
unfolding lower
returns-else-at-x c = simp (le-ltb _ _ c.if-at-x.false)
