use mathlib.Core.Path.{refl}
use Rattle.rules.specs.Tables.{group_entry}
use Rattle.execute.proofs.group_entry.Goals as goal

pub returns : goal.returns
unfolding group_entry
returns c = refl
