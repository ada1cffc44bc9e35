use Rattle.registers.proofs.complete_raises.Goals as goal

pub returns : goal.returns
returns c = rw (← c.command_ring.ensures) c.complete_raises.ensures
