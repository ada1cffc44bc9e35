use mathlib.Core.Path.{refl, ◌∙◌}
use borrow.Author.Rules.{rules}
use Rattle.report.proofs.Reporting.{number_put}
use Rattle.report.proofs.put_number.Goals as goal

pub returns : goal.returns
returns c = number_put _ _ _ c.args.n _ _ (search rules) (c.as_bytes-text.ensures.value ∙ c.format.ensures.text) refl c.put_bytes.ensures
