-- A command, or a fault.
-- Assumes nothing.
use Rattle.std.proofs.lemmas.Result.{err_from_is_err_and}
use Rattle.carrying.proofs.Carrying.{asked, faulty}
use Rattle.carrying.proofs.carry_out.Goals as goal

pub returns-clause-outcome : goal.returns-clause-outcome
returns-clause-outcome c = asked _ c.in_ok-c.was c.command.ensures.outcome

pub returns-in_err-c-clause-outcome : goal.returns-in_err-c-clause-outcome
returns-in_err-c-clause-outcome c =
    let p = err_from_is_err_and c.from_residual.result c.from_residual.ensures.1 in
    rw (p.1, p.2) (asked _ c.in_err-c.was (faulty _ _ _ _ _ _))
