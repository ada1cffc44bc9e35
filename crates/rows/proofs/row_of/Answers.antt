-- `rows::row_of` meets its contract.
-- Assumes nothing.
use Rattle.rules.specs.Rows.{entry_in}
use Rattle.rows.proofs.Halves.{halves}
use Rattle.rows.proofs.row_of.Goals as goal

pub returns : goal.returns
unfolding entry_in
returns c =
    simp (c.high-4.ensures, c.low-4.ensures, c.high-3.ensures, c.low-3.ensures, c.from_byte.ensures, c.from_short-5.ensures, c.from_flag-2.ensures, c.from_flag.ensures, c.from_short-4.ensures, c.from_short-3.ensures, c.from_short-2.ensures, c.from_short.ensures, c.high-2.ensures, c.low-2.ensures, c.high.ensures, c.low.ensures, halves)
