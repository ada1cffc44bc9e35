use native.Mathlib.Omega.{arith}
use Rattle.answers.proofs.Refusals.{answer_small}
use Rattle.capi.proofs.answer_of.Goals as goal

pub overflow_cast-result : goal.overflow_cast-result
overflow_cast-result g c = rw c.answer_number.ensures (omega (arith, answer_small c.args.r.now))
