use Rattle.std.proofs.Common.{◌+◌, arith}
use Rattle.rules.specs.Region.{filled}
use Rattle.rules.proofs.Bytes.{le_at_below}
use Rattle.tlv.proofs.Reading.{left_over}
use Rattle.tlv.proofs.reader.front.Goals as goal

-- a length has 16 bits
pub filled-requires : goal.filled-requires
unfolding filled
filled-requires c =
    let a = c.args in
    let short = left_over _ _ _ _ _ _ c.checked_sub-3.ensures c.ok_or-3.ensures.value c.in_ok-size.was in
    omega (arith, short, c.from.ensures, c.le.ensures, le_at_below 2 a.region.now (a.at + 4) (λ j. (c.type_inv.region j).fits))
