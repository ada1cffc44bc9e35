use Rattle.report.proofs.Reporting.{puts_bytes, fault_put}
use mathlib.Core.Path.{refl}
use Rattle.report.proofs.put_fault.Goals as goal

pub returns : goal.returns
returns c = fault_put _ _ c.put_item-a.ensures (puts_bytes _ _ _ _ _ refl c.put_bytes.ensures) c.put_line.ensures
