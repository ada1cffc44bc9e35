use native.Mathlib.Omega.{arith}
use Rattle.rules.specs.Bytes.{swap16}
use Rattle.encoding.proofs.swapped.Goals as goal

pub returns : goal.returns
unfolding swap16
returns c = omega arith
