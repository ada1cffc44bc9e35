use Rattle.report.proofs.Reporting.{list_put}
use Rattle.report.proofs.put_list.Goals as goal

pub returns : goal.returns
returns c = list_put _ _ c.put_line-a.ensures c.put_line.ensures
