-- The place of the flow is closed. Each way out is a law of Ends.
-- Assumes nothing.
use native.Mathlib.Omega.{arith}
use Rattle.plain.proofs.Ends.{held_lt, deleted, absent}
use Rattle.plain.proofs.store.del.Goals as goal

pub close-requires : goal.close-requires
close-requires c =
    let f = c.find-p.ensures in
    (held_lt f.1 c.if-p.true, omega (arith, f.1.inside, f.0))

pub overflow_sub-result : goal.overflow_sub-result
overflow_sub-result c = omega (arith, held_lt c.find-p.ensures.1 c.if-p.true)

pub returns-then-p : goal.returns-then-p
returns-then-p c = deleted c.find-p.ensures.1 c.close.new.places c.if-p.true c.close.ensures.0

pub returns : goal.returns
returns c = absent c.find-p.ensures.1 c.if-p.false
