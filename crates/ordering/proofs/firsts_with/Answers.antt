-- Each table by itself.
-- Assumes nothing.
use Rattle.rules.specs.Engine.{firsts_with}
use Rattle.ordering.proofs.firsts_with.Goals as goal

pub returns : goal.returns
unfolding firsts_with
returns c = simp (c.later.ensures, c.later-2.ensures, c.later-3.ensures, c.later-4.ensures)
