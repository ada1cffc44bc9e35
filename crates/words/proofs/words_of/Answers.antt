-- `words::words_of` meets its contract.
-- Assumes nothing.
use Rattle.words.specs.Words.{device_in}
use Rattle.words.proofs.words_of.Goals as goal

pub returns : goal.returns
unfolding device_in
returns c =
    simp (c.wide-credits.ensures, c.wide-tail.ensures, c.wide-head.ensures, c.wide-size.ensures, c.wide-base_latch.ensures, c.wide-test_reg.ensures, c.wide-test_latch.ensures, c.wide-enable_latch.ensures, c.wide-ports.ensures)
