-- `rows::entry_of` meets its contract.
-- Assumes nothing.
use Rattle.rules.specs.Rows.{entry_in}
use Rattle.rows.proofs.entry_of.Goals as goal

pub returns : goal.returns
unfolding entry_in
returns c =
    simp (c.flag-2.ensures, c.flag.ensures, c.byte.ensures, c.short-5.ensures, c.short-4.ensures, c.short-3.ensures, c.short-2.ensures, c.short.ensures, c.join-4.ensures, c.join-3.ensures, c.join-2.ensures, c.join.ensures)
