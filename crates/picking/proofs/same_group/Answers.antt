-- A derived `==` compares as the rules do.
-- Assumes nothing.
use Rattle.picking.proofs.Same.{group_same}
use Rattle.picking.proofs.same_group.Goals as goal

pub returns : goal.returns
returns c = rw c.eq.ensures (group_same c.args.own c.args.other)
