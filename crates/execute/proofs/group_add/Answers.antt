-- What the table promises of the command, beside any flows.
-- Assumes nothing.
use mathlib.Core.Path.{refl}
use Rattle.std.proofs.lemmas.Result.{err_from_is_err_and}
use Rattle.rules.specs.Tables.{arrays}
use Rattle.execute.proofs.Carried.{group_added}
use Rattle.execute.proofs.group_add.Goals as goal

pub returns-clause-outcome : goal.returns-clause-outcome
returns-clause-outcome c =
    record { flows_kept = refl; commands = λ flows. group_added _ (arrays flows _ _) _ _ _ _ _ _ _ c.group_entry.ensures c.in_ok-groups.ensures.outcome }

pub returns-in_err-groups-clause-outcome : goal.returns-in_err-groups-clause-outcome
returns-in_err-groups-clause-outcome c =
    let p = err_from_is_err_and c.from_residual.result c.from_residual.ensures.1 in
    rw (p.1, p.2)
    (record { flows_kept = refl; commands = λ flows. group_added _ (arrays flows _ _) _ _ _ _ _ _ _ c.group_entry.ensures c.in_err-groups.ensures.outcome })
