use Rattle.rules.specs.Registers.{port_count_allowed}
use borrow.Author.Rules.{rules}
use Rattle.ports.proofs.port_count_allowed.Goals as goal

pub returns : goal.returns
unfolding port_count_allowed
returns c = search rules
