use Rattle.rules.specs.Bytes.{swap16}
use native.Mathlib.Omega.{arith}
use Rattle.wire.proofs.be16.Goals as goal

pub returns : goal.returns
unfolding swap16
returns c = omega arith
