-- The tests are those of the rule.
-- Assumes nothing.
use mathlib.Core.Path.{refl}
use Rattle.rules.specs.Engine.{same_rank}
use Rattle.ordering.proofs.same_rank.Goals as goal

pub returns : goal.returns
unfolding same_rank
returns c = refl
