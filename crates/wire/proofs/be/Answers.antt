use Rattle.rules.proofs.Address.{swapped_below}
use Rattle.wire.proofs.be.Goals as goal

pub narrowed-requires : goal.narrowed-requires
narrowed-requires g c = rw (c.turned.ensures, c.WIDTH-2.ensures) (swapped_below g.T.Number.WIDTH _)
