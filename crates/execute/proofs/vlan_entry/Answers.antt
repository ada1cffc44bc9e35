-- `execute::vlan_entry` meets its contract.
-- Assumes nothing.
use Rattle.rules.specs.Tables.{stored_flow}
use Rattle.execute.proofs.vlan_entry.Goals as goal

pub returns : goal.returns
unfolding stored_flow
returns c = rw c.common_entry-e.ensures
