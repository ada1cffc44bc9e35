-- Each field is its number.
-- Assumes nothing.
use mathlib.Core.Path.{refl}
use Rattle.plain.specs.Numbers.{firsts_at}
use Rattle.plain.proofs.firsts_of.Goals as goal

pub returns : goal.returns
unfolding firsts_at
returns c = refl
