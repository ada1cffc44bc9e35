use Rattle.rules.specs.Registers.{is_up}
use Rattle.ports.proofs.is_up.Goals as goal

pub returns : goal.returns
unfolding is_up
returns c = rw (← c.bit.ensures, ← c.bit-2.ensures)
