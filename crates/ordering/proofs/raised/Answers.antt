-- The tests go as the rule does.
-- Assumes nothing.
use lib.Dec.{ltb, leb}
use borrow.Author.Tests.{ltb-true}
use Rattle.rules.proofs.Cases.{and_right}
use Rattle.rules.specs.Engine.{raise}
use native.Mathlib.Omega.{arith}
use Rattle.ordering.proofs.raised.Goals as goal

pub overflow_add-result : goal.overflow_add-result
overflow_add-result c =
    let a = c.args in
    omega (arith, ltb-true a.x 255 (and_right (leb a.at a.x) (ltb a.x 255) c.if-at-x.true))

pub returns-then-at-x : goal.returns-then-at-x
unfolding raise
returns-then-at-x c = simp c.if-at-x.true

pub returns-else-at-x : goal.returns-else-at-x
unfolding raise
returns-else-at-x c = simp c.if-at-x.false
