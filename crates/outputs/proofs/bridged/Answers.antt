-- `outputs::bridged` meets its contract.
-- Assumes nothing.
use mathlib.Core.Path.{refl}
use Rattle.copies.specs.Copies.{rewrite_in}
use Rattle.outputs.proofs.bridged.Goals as goal

pub returns : goal.returns
unfolding rewrite_in
returns c = refl
