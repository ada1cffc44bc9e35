use Rattle.rules.specs.Decode.{match_allowed}
use Rattle.ranges.proofs.match_allowed.Goals as goal

pub returns-in-IngressPort : goal.returns-in-IngressPort
unfolding match_allowed
returns-in-IngressPort c = simp c.in-IngressPort.is

pub returns-in-Vlan : goal.returns-in-Vlan
returns-in-Vlan c = rw c.in-Vlan.is c.vlan_flow_allowed.ensures

pub returns-in-TerminationMac : goal.returns-in-TerminationMac
returns-in-TerminationMac c = rw c.in-TerminationMac.is (c.termination_allowed.ensures _ _)

pub returns-in-UnicastRouting : goal.returns-in-UnicastRouting
returns-in-UnicastRouting c = rw c.in-UnicastRouting.is (c.routing_allowed.ensures _ _ _)

pub returns-in-Bridging : goal.returns-in-Bridging
returns-in-Bridging c = rw c.in-Bridging.is (c.bridging_allowed.ensures _ _)
