use native.Mathlib.Omega.{arith}
use Rattle.text.proofs.Laws.{digit_given}
use Rattle.text.proofs.digit.Goals as goal

pub returns : goal.returns
returns c = digit_given 16 c.args.b (omega arith) _ (rw c.from.ensures at c.to_digit.ensures.value)
