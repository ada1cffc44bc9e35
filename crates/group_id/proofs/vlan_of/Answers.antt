use Rattle.rules.proofs.GroupId.{vlan_by_mask, vlan_below}
use native.Mathlib.Omega.{arith}
use Rattle.group_id.proofs.vlan_of.Goals as goal

pub overflow_cast-result : goal.overflow_cast-result
overflow_cast-result c = omega (arith, vlan_by_mask c.args.id, vlan_below c.args.id)

pub returns : goal.returns
returns c = vlan_by_mask _
