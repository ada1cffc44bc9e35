use mathlib.Core.Path.{◌∙◌}
use Rattle.rules.specs.Encode.{flow_value}
use Rattle.encoding.proofs.FieldLists.{no_header, address_half, mask_half}
use borrow.Author.Rules.{rules}
use Rattle.encoding.proofs.header_value.Goals as goal

pub returns-then-t-eq-VLAN_ID : goal.returns-then-t-eq-VLAN_ID
unfolding flow_value
returns-then-t-eq-VLAN_ID c = c.swapped.ensures ∙ rw c.if-t-eq-VLAN_ID.true

pub returns-then-t-eq-NEW_VLAN_ID : goal.returns-then-t-eq-NEW_VLAN_ID
unfolding flow_value
returns-then-t-eq-NEW_VLAN_ID c = c.swapped-then-t-eq-NEW_VLAN_ID.ensures ∙ rw c.if-t-eq-NEW_VLAN_ID.true

pub returns-then-t-eq-ETHERTYPE : goal.returns-then-t-eq-ETHERTYPE
unfolding flow_value
returns-then-t-eq-ETHERTYPE c = c.swapped-then-t-eq-ETHERTYPE.ensures ∙ rw c.if-t-eq-ETHERTYPE.true

pub returns-then-t-eq-DST_MAC : goal.returns-then-t-eq-DST_MAC
unfolding flow_value
returns-then-t-eq-DST_MAC c = rw c.if-t-eq-DST_MAC.true

pub returns-then-t-eq-DST_IP : goal.returns-then-t-eq-DST_IP
returns-then-t-eq-DST_IP c = c.upper.ensures ∙ address_half _ _ c.if-t-eq-DST_IP.true (search rules)

pub returns-then-t-eq-DST_IP_MASK : goal.returns-then-t-eq-DST_IP_MASK
returns-then-t-eq-DST_IP_MASK c = c.upper-then-t-eq-DST_IP_MASK.ensures ∙ rw c.ones.ensures (mask_half _ _ c.if-t-eq-DST_IP_MASK.true)

pub returns : goal.returns
returns c =
    no_header _ _ c.requires.0 c.requires.1 c.if-t-eq-VLAN_ID.false c.if-t-eq-NEW_VLAN_ID.false c.if-t-eq-ETHERTYPE.false c.if-t-eq-DST_MAC.false c.if-t-eq-DST_IP.false c.if-t-eq-DST_IP_MASK.false
