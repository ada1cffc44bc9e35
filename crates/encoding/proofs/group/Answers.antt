use Rattle.encoding.proofs.FieldLists.{group_put}
use Rattle.encoding.proofs.group.Goals as goal

pub returns : goal.returns
returns c =
    group_put _ _ c.requires c.put_group_fields-end.ensures c.put_top.ensures
