-- `tables::clear` meets its contract.
-- Assumes nothing.
use mathlib.Core.Path.{refl}
use Rattle.rules.specs.Tables.{fresh_arrays}
use Rattle.tables.proofs.clear.Goals as goal

pub returns : goal.returns
unfolding fresh_arrays
returns c = refl
