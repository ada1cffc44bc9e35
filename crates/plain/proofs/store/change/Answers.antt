-- One row is stored over. Each way out is a law of Ends.
-- Assumes nothing.
use native.Mathlib.Omega.{arith}
use Rattle.plain.proofs.Ends.{held_lt, modded, not_there}
use Rattle.plain.proofs.store.change.Goals as goal

pub bounds-rows-at : goal.bounds-rows-at
bounds-rows-at c =
    let f = c.find-p.ensures in
    omega (arith, held_lt f.1 c.if-p.true, f.1.inside)

pub returns-then-p : goal.returns-then-p
returns-then-p c = modded _ c.find-p.ensures.1 _ c.row_of.ensures c.if-p.true

pub returns : goal.returns
returns c = not_there _ c.find-p.ensures.1 c.if-p.false
