use Rattle.report.proofs.Reporting.{puts_bytes, item_put}
use mathlib.Core.Path.{refl}
use borrow.Author.Rules.{rules}
use Rattle.report.proofs.put_item.Goals as goal

pub returns : goal.returns
returns c = item_put _ _ (search rules) (puts_bytes _ _ _ _ _ refl c.put_bytes.ensures) (puts_bytes _ _ _ _ _ refl c.put_bytes-2.ensures) c.put_number.ensures
