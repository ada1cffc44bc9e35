use Rattle.encoding.proofs.FieldLists.{single_put}
use borrow.Author.Rules.{rules}
use Rattle.encoding.proofs.put_single.Goals as goal

pub returns : goal.returns
returns c =
    single_put _ (search rules) (search rules) c.low_of-port.ensures c.flag.ensures c.put_field-a.ensures c.put_field-b.ensures
    c.put_field.ensures
