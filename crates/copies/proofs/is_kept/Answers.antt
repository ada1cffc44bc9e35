-- `copies::is_kept` meets its contract.
-- Assumes nothing.
use Rattle.copies.proofs.is_kept.Goals as goal

pub returns : goal.returns
returns c = rw c.is_up.ensures
