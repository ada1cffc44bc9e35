use Rattle.std.proofs.Common.{◌^◌, ◌<◌, arith}
use Rattle.registers.specs.Fits.{Bounded}
use Rattle.registers.proofs.number_for.Goals as goal
use Rattle.registers.proofs.number_for.Goals.{After-latch_of}

upper : (c : After-latch_of) → c.args.v < 2 ^ 32
unfolding Bounded
upper c = (rw c.in-Upper.is at c.requires).1

pub overflow_mul-result : goal.overflow_mul-result
overflow_mul-result c = omega (arith, upper (goal.at.overflow_mul-result c).After-latch_of)

pub overflow_add-result : goal.overflow_add-result
overflow_add-result c = omega (arith, upper (goal.at.overflow_add-result c).After-latch_of, c.latch_of.type_inv)
