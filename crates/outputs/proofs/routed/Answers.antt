-- `outputs::routed` meets its contract.
-- Assumes nothing.
use mathlib.Core.Path.{refl}
use Rattle.copies.specs.Copies.{rewrite_in}
use Rattle.outputs.proofs.routed.Goals as goal

pub returns : goal.returns
unfolding rewrite_in
returns c = refl
