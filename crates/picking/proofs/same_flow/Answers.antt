-- A derived `==` compares as the rules do.
-- Assumes nothing.
use Rattle.picking.proofs.Same.{flow_same}
use Rattle.picking.proofs.same_flow.Goals as goal

pub returns : goal.returns
returns c = rw c.eq.ensures (flow_same c.args.a c.args.b)
