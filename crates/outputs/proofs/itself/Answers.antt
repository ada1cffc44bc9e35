-- `outputs::itself` meets its contract.
-- Assumes nothing.
use mathlib.Core.Path.{refl}
use Rattle.outputs.proofs.Outputs.{stands_itself}
use Rattle.outputs.proofs.itself.Goals as goal

pub returns : goal.returns
returns c =
    stands_itself _ _ c.requires c.vlan_of.ensures c.bridged.ensures (rw c.low_of.ensures refl)
