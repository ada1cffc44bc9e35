use Rattle.encoding.proofs.Written.{wide_put}
use borrow.Author.Rules.{rules}
use Rattle.encoding.proofs.put_wide.Goals as goal

pub returns : goal.returns
returns c =
    rw (c.put-2.ensures, c.turned-2.ensures, c.put.ensures, c.turned.ensures)
    (wide_put _ _ _ _ _ _ (search rules) c.requires c.put_lead.ensures)
