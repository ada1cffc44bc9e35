-- `copies::mac_numbers` meets its contract.
-- Assumes nothing.
use Rattle.rules.specs.Frame.{mac_numbers}
use Rattle.copies.proofs.mac_numbers.Goals as goal

pub returns : goal.returns
unfolding mac_numbers
returns c = rw (c.swapped-3.ensures, c.swapped-2.ensures, c.swapped.ensures)
