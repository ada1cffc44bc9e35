use Rattle.rules.specs.Registers.{port_allowed}
use Rattle.ports.proofs.port_allowed.Goals as goal

pub returns : goal.returns
unfolding port_allowed
returns c = cc
