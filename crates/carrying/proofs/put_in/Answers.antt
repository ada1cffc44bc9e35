-- The slots and the first slots are each as the rules have them.
-- Assumes nothing.
use Rattle.carrying.proofs.Ordering.{put_in}
use Rattle.carrying.proofs.put_in.Goals as goal

pub returns : goal.returns
returns c = put_in c.args.flows.now _ _ _ _ _ _ c.add.ensures c.firsts_with.ensures
