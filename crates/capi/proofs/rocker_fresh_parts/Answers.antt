-- `capi::rocker_fresh_parts` meets its contract.
-- Assumes nothing.
use native.Mathlib.Omega.{arith}
use Rattle.answers.proofs.Refusals.{refusal_range}
use Rattle.capi.proofs.Outcomes.{fresh_done, fresh_refused}
use Rattle.capi.proofs.rocker_fresh_parts.Goals as goal

pub returns-in-Ok : goal.returns-in-Ok
returns-in-Ok c = fresh_done _ (rw c.in-Ok.is at c.fresh-made.ensures) c.words_of.ensures

pub overflow_cast-result : goal.overflow_cast-result
overflow_cast-result c = rw c.refusal_number.ensures (omega (arith, (refusal_range c.in-Err.refusal).1))

pub returns-in-Err : goal.returns-in-Err
returns-in-Err c = rw c.refusal_number.ensures (fresh_refused _ (rw c.in-Err.is at c.fresh-made.ensures))
