use Rattle.rules.proofs.Address.{swapped_below}
use native.Mathlib.Omega.{arith}
use Rattle.fields.proofs.region.Fields.be32.Goals as goal

pub overflow_cast-result : goal.overflow_cast-result
overflow_cast-result c = omega (arith, swapped_below 4 c.value.result, c.turned.ensures)
