-- `execute::execute` meets its contract.
-- Assumes nothing.
use Rattle.std.proofs.lemmas.Result.{err_from_is_err_and}
use Rattle.rules.specs.Tables.{carry_out_in, decoded_status_in, decoded_effect_in}
use Rattle.execute.proofs.Carried.{refused}
use Rattle.execute.proofs.execute.Goals as goal

pub returns-clause-outcome : goal.returns-clause-outcome
unfolding carry_out_in decoded_status_in decoded_effect_in
returns-clause-outcome c = rw c.in_ok-c.was c.command.ensures.outcome

pub returns-in_err-c-clause-outcome : goal.returns-in_err-c-clause-outcome
unfolding carry_out_in decoded_status_in decoded_effect_in
returns-in_err-c-clause-outcome c =
    let p = err_from_is_err_and c.from_residual.result c.from_residual.ensures.1 in
    rw (p.1, p.2, c.in_err-c.was) (refused _ _ _)
