use Rattle.ports.proofs.Bitmaps.{bit_masked, bit_beyond}
use Rattle.ports.proofs.bit.Goals as goal

pub returns-then-p-lt64 : goal.returns-then-p-lt64
returns-then-p-lt64 c = bit_masked _ _

pub returns : goal.returns
returns c = bit_beyond _ _ c.if-p-lt64.false c.ranges.v.fits
