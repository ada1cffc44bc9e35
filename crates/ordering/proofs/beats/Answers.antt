-- The tests go as the rules do.
-- Assumes nothing.
use borrow.Author.Tests.{eq-eqb, ne_eqb}
use Rattle.rules.specs.Frame.{beats}
use Rattle.ordering.proofs.beats.Goals as goal

pub returns-then-a-b-2 : goal.returns-then-a-b-2
unfolding beats
returns-then-a-b-2 c =
    simp (eq-eqb _ _ c.if-a-b.true, eq-eqb _ _ c.if-a-b-2.true)

pub returns-then-a-b : goal.returns-then-a-b
unfolding beats
returns-then-a-b c =
    simp (eq-eqb _ _ c.if-a-b.true, ne_eqb _ _ c.if-a-b-2.false)

pub returns : goal.returns
unfolding beats
returns c = simp (ne_eqb _ _ c.if-a-b.false)
