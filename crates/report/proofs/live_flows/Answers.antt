use Rattle.report.proofs.Reporting.{flows_counted}
use Rattle.report.proofs.live_flows.Goals as goal

pub returns : goal.returns
returns c = flows_counted _ _ _ c.min.ensures
