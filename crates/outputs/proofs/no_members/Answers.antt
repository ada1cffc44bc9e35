-- `outputs::no_members` meets its contract.
-- Assumes nothing.
use mathlib.Core.Path.{refl}
use Rattle.outputs.proofs.Outputs.{stands_none}
use Rattle.outputs.proofs.no_members.Goals as goal

pub returns : goal.returns
returns c = stands_none refl
