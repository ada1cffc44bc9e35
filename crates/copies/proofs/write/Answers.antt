-- `copies::write` meets its contract.
-- Assumes nothing.
use Rattle.copies.proofs.Copying.{bridged_in}
use Rattle.copies.proofs.write.Goals as goal

pub returns-then-how : goal.returns-then-how
returns-then-how c = rw (← c.routed_copy.ensures) c.put.ensures

pub returns-else-how : goal.returns-else-how
returns-else-how c =
    rw (bridged_in c.args.how c.if-how.false, ← c.bridged_copy.ensures) c.put-else-how.ensures
