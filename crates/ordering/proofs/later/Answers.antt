-- The tests go as the rule does.
-- Assumes nothing.
use lib.Dec.{ltb}
use borrow.Author.Tests.{ltb-true}
use Rattle.rules.proofs.Cases.{and_right}
use Rattle.rules.specs.Engine.{later}
use native.Mathlib.Omega.{arith}
use Rattle.ordering.proofs.later.Goals as goal

pub overflow_add-result : goal.overflow_add-result
overflow_add-result c =
    let a = c.args in
    omega (arith, ltb-true a.n 256 (and_right a.moves (ltb a.n 256) c.if-moves-n.true))

pub returns-then-moves-n : goal.returns-then-moves-n
unfolding later
returns-then-moves-n c = simp c.if-moves-n.true

pub returns-else-moves-n : goal.returns-else-moves-n
unfolding later
returns-else-moves-n c = simp c.if-moves-n.false
