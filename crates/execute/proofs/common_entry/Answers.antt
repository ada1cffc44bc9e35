use mathlib.Core.Path.{refl}
use Rattle.rules.specs.Tables.{stored_flow}
use Rattle.execute.proofs.common_entry.Goals as goal

pub returns : goal.returns
unfolding stored_flow
returns c = refl
