use Rattle.rules.specs.Encode.{flow_has}
use borrow.Author.Tests.{ne_eqb}
use Rattle.encoding.proofs.flow_has.Goals as goal

pub returns-then-t-eq-GROUP_ID : goal.returns-then-t-eq-GROUP_ID
unfolding flow_has
returns-then-t-eq-GROUP_ID c = rw c.if-t-eq-GROUP_ID.true

pub returns-then-t-eq-NEW_VLAN_ID : goal.returns-then-t-eq-NEW_VLAN_ID
unfolding flow_has
returns-then-t-eq-NEW_VLAN_ID c = rw c.if-t-eq-NEW_VLAN_ID.true

pub returns-then-t-eq-DST_MAC : goal.returns-then-t-eq-DST_MAC
unfolding flow_has
returns-then-t-eq-DST_MAC c = rw c.if-t-eq-DST_MAC.true

pub returns : goal.returns
unfolding flow_has
returns c = simp (ne_eqb _ _ c.if-t-eq-GROUP_ID.false, ne_eqb _ _ c.if-t-eq-NEW_VLAN_ID.false, ne_eqb _ _ c.if-t-eq-DST_MAC.false)
