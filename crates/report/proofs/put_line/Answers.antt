use Rattle.report.proofs.Reporting.{puts_bytes, line_put}
use mathlib.Core.Path.{refl}
use borrow.Author.Rules.{rules}
use Rattle.report.proofs.put_line.Goals as goal

pub returns : goal.returns
returns c = line_put _ _ (search rules) c.put_item-end.ensures (puts_bytes _ _ _ _ _ refl c.put_bytes.ensures)
