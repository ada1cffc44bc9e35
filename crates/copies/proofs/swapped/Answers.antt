-- `copies::swapped` meets its contract.
-- Assumes nothing.
use mathlib.Core.Path.{refl}
use Rattle.rules.specs.Bytes.{swap16}
use Rattle.copies.proofs.swapped.Goals as goal

pub returns : goal.returns
unfolding swap16
returns c = refl
