use Rattle.hexadecimal.proofs.Filling.{fill_ends}
use native.Mathlib.Omega.{arith}
use Rattle.hexadecimal.specs.Hex.{BytesOf}
use Rattle.hexadecimal.proofs.bytes.Goals as goal

pub returns : goal.returns
unfolding BytesOf
returns c = fill_ends c.loop-i.invariant (omega (arith, c.loop-i.invariant.size, c.loop-i-test.false))
