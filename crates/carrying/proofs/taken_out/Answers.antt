-- The slots and the first slots are each as the rules have them.
-- Assumes nothing.
use Rattle.carrying.proofs.Ordering.{taken_out}
use Rattle.carrying.proofs.taken_out.Goals as goal

pub returns : goal.returns
returns c = taken_out c.args.flows.now _ c.entry_of-old.ensures _ _ _ _ c.remove.ensures c.firsts_without.ensures
