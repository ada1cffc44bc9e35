use Rattle.encoding.proofs.FieldLists.{routing_put}
use borrow.Author.Rules.{rules}
use Rattle.encoding.proofs.put_routing.Goals as goal

pub returns : goal.returns
returns c =
    routing_put _ (search rules) (search rules) (search rules) (search rules) c.lower_id.ensures c.swapped.ensures c.put_field-a.ensures c.put_field-b.ensures
    c.put_field-c.ensures c.put_field-d.ensures c.put_field.ensures
