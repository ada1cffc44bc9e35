use Rattle.report.proofs.Reporting.{outcome_list, outcome_fault}
use Rattle.report.proofs.undo_outcome.Goals as goal

pub returns-in-Ok-clause-puts : goal.returns-in-Ok-clause-puts
returns-in-Ok-clause-puts c = outcome_list _ _ c.in-Ok.is c.undone.ensures.puts

pub returns-in-Err-clause-puts : goal.returns-in-Err-clause-puts
returns-in-Err-clause-puts c = outcome_fault _ _ c.in-Err.is c.refusal_number.ensures c.undone-in-Err.ensures.puts
