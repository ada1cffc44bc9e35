use Rattle.rules.proofs.GroupId.{low_by_mask, low_below}
use native.Mathlib.Omega.{arith}
use Rattle.group_id.proofs.low_of.Goals as goal

pub overflow_cast-result : goal.overflow_cast-result
overflow_cast-result c = omega (arith, low_by_mask c.args.id, low_below c.args.id)

pub returns : goal.returns
returns c = low_by_mask _
