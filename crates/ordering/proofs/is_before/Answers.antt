-- A place that is not live has no flow; the row of a live one is its flow.
-- Assumes nothing.
use native.Mathlib.Omega.{arith}
use lib.ListN.{length}
use borrow.Author.Tests.{le-ltb}
use Rattle.ordering.proofs.Flows.{not_live, is_live}
use Rattle.ordering.proofs.is_before.Goals as goal

pub returns-then-place-flows : goal.returns-then-place-flows
returns-then-place-flows c =
    let f = rw c.from-place.ensures at c.entry_of.ensures in
    is_live c.args.flows.now c.args.place c.args.e (omega (arith, c.from-place.ensures)) f c.precedes.ensures

pub returns-else-place-flows : goal.returns-else-place-flows
returns-else-place-flows c =
    simp (le-ltb c.from-place.result (length c.args.flows.now) c.if-place-flows.false) (not_live c.args.flows.now c.args.place c.args.e (omega (arith, c.from-place.ensures)))
