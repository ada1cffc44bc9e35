-- The tests go as the rules do.
-- Assumes nothing.
use borrow.Author.Tests.{eq-eqb, ne_eqb}
use Rattle.rules.specs.Engine.{precedes}
use Rattle.ordering.proofs.precedes.Goals as goal

pub returns-then-a-b : goal.returns-then-a-b
unfolding precedes
returns-then-a-b c = simp (eq-eqb _ _ c.if-a-b.true, c.beats.ensures)

pub returns : goal.returns
unfolding precedes
returns c = simp (ne_eqb _ _ c.if-a-b.false)
