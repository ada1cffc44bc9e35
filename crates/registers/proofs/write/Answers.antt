use Rattle.registers.proofs.Fits.{taken_fits}
use Rattle.registers.proofs.Outcomes.{gives_unless}
use Rattle.rules.specs.Registers.{write}
use Rattle.registers.proofs.write.Goals as goal

pub write_to-requires : goal.write_to-requires
write_to-requires c = rw (c.access.ensures, c.taken.ensures) (taken_fits _ _ _)

pub returns : goal.returns
unfolding write
returns c = gives_unless _ _ _ (rw (c.access.ensures, c.taken.ensures) at c.write_to.ensures)
