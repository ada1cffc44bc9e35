use Rattle.members.proofs.Collect.{Reading}
use Rattle.members.proofs.read.Given as goal

abbrev pub invariant-loop-tlv : goal.invariant-loop-tlv
invariant-loop-tlv l = Reading l.header l.region l.vlan l.tlv-iterator l.lows l.n
