use mathlib.Core.Path.{refl}
use Rattle.rules.specs.Tables.{fresh_arrays}
use Rattle.tables.proofs.stored.Places.new.Goals as goal

pub returns : goal.returns
unfolding fresh_arrays
returns c = refl
