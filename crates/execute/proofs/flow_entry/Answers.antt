-- `execute::flow_entry` meets its contract.
-- Assumes nothing.
use Rattle.rules.specs.Tables.{flow_entry}
use Rattle.execute.proofs.flow_entry.Goals as goal

pub returns-in-IngressPort : goal.returns-in-IngressPort
unfolding flow_entry
returns-in-IngressPort c = rw (c.ingress_entry.ensures, c.in-IngressPort.is)

pub returns-in-Vlan : goal.returns-in-Vlan
unfolding flow_entry
returns-in-Vlan c = rw (c.vlan_entry.ensures, c.in-Vlan.is)

pub returns-in-TerminationMac : goal.returns-in-TerminationMac
unfolding flow_entry
returns-in-TerminationMac c = rw (c.termination_entry.ensures, c.in-TerminationMac.is)

pub returns-in-UnicastRouting : goal.returns-in-UnicastRouting
unfolding flow_entry
returns-in-UnicastRouting c = rw (c.routing_entry.ensures, c.in-UnicastRouting.is)

pub returns-in-Bridging : goal.returns-in-Bridging
unfolding flow_entry
returns-in-Bridging c = rw (c.bridging_entry.ensures, c.in-Bridging.is)
