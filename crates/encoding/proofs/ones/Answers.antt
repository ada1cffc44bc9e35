use native.Mathlib.Omega.{arith}
use lib.Pow.{shr_le}
use Rattle.encoding.proofs.Words.{ones_left, all_ones}
use Rattle.encoding.proofs.ones.Goals as goal

pub returns-then-n-ge64 : goal.returns-then-n-ge64
returns-then-n-ge64 c = all_ones _ c.if-n-ge64.true

pub overflow_sub-result : goal.overflow_sub-result
overflow_sub-result c = shr_le _ _

pub returns : goal.returns
returns c = ones_left _ (omega arith)
