use Rattle.report.proofs.Reporting.{told_list, told_refused, told_fault}
use Rattle.report.proofs.undone.Goals as goal

pub returns-then-answer-eq0-clause-puts : goal.returns-then-answer-eq0-clause-puts
returns-then-answer-eq0-clause-puts c = told_list _ _ _ _ c.if-answer-eq0.true c.put_list.ensures

pub returns-then-answer-gt14-clause-puts : goal.returns-then-answer-gt14-clause-puts
returns-then-answer-gt14-clause-puts c = told_refused _ _ _ _ c.if-answer-eq0.false c.if-answer-gt14.true c.put_line.ensures

pub returns-else-answer-gt14-clause-puts : goal.returns-else-answer-gt14-clause-puts
returns-else-answer-gt14-clause-puts c = told_fault _ _ _ _ c.if-answer-eq0.false c.if-answer-gt14.false c.put_fault.ensures
