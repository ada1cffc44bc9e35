-- `words::device_of` meets its contract.
-- Assumes nothing.
use Rattle.words.specs.Words.{device_in}
use Rattle.words.proofs.device_of.Goals as goal

pub returns : goal.returns
unfolding device_in
returns c = rw (c.registers_of.ensures, c.ring_of.ensures)
