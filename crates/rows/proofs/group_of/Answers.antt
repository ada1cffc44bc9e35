-- `rows::group_of` meets its contract.
-- Assumes nothing.
use Rattle.rules.specs.Rows.{group_in}
use Rattle.rows.proofs.group_of.Goals as goal

pub returns : goal.returns
unfolding group_in
returns c =
    simp (c.join-2.ensures, c.join.ensures, c.short.ensures, c.byte.ensures, c.flag.ensures)
