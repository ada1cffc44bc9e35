use borrow.Author.Tests.{eq-eqb, ne_eqb}
use Rattle.deciding.proofs.vlan_after.Goals as goal

pub returns-then-vlan-eq0 : goal.returns-then-vlan-eq0
returns-then-vlan-eq0 c = simp (eq-eqb _ _ c.if-vlan-eq0.true)

pub returns-else-vlan-eq0 : goal.returns-else-vlan-eq0
returns-else-vlan-eq0 c = simp (ne_eqb _ _ c.if-vlan-eq0.false)
