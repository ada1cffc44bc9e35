-- `rows::head_of` meets its contract.
-- Assumes nothing.
use Rattle.rules.specs.Rows.{group_in}
use Rattle.rows.proofs.Halves.{halves}
use Rattle.rows.proofs.head_of.Goals as goal

pub returns : goal.returns
unfolding group_in
returns c =
    simp (c.high-2.ensures, c.low-2.ensures, c.high.ensures, c.low.ensures, c.from_short.ensures, c.from_byte.ensures, c.from_flag.ensures, halves)
