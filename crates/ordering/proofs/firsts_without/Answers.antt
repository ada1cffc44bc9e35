-- Each table by itself.
-- Assumes nothing.
use Rattle.rules.specs.Engine.{firsts_without}
use Rattle.ordering.proofs.firsts_without.Goals as goal

pub returns : goal.returns
unfolding firsts_without
returns c = simp (c.earlier.ensures, c.earlier-2.ensures, c.earlier-3.ensures, c.earlier-4.ensures)
