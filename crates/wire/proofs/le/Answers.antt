use Rattle.std.proofs.Common.{◌≡◌, min, arith}
use Rattle.rules.proofs.Bytes.{le_at_below}
use Rattle.wire.proofs.le.Goals as goal

pub narrowed-requires : goal.narrowed-requires
narrowed-requires g c =
    let w = g.T.Number.WIDTH in
    let all : min w 8 ≡ w = omega (arith, g.met.T.Number.narrow) in
    rw (c.number_at.ensures, c.WIDTH.ensures, all) (le_at_below w c.args.s.now c.args.at (λ j. (c.type_inv.s j).fits))
