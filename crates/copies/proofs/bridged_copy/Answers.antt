-- `copies::bridged_copy` meets its contract.
-- Assumes nothing.
use Rattle.rules.specs.Bytes.{swap16}
use Rattle.rules.specs.Frame.{mac_numbers, copy_of}
use Rattle.copies.proofs.bridged_copy.Goals as goal

pub returns : goal.returns
unfolding copy_of mac_numbers swap16
returns c = rw c.number.ensures
