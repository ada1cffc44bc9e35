use Rattle.report.proofs.Reporting.{groups_counted}
use Rattle.report.proofs.live_groups.Goals as goal

pub returns : goal.returns
returns c = let a = c.args in groups_counted _ _ _ a.heads.now a.members.now c.min.ensures c.min-2.ensures
