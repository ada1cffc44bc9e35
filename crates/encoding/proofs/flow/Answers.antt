use Rattle.encoding.proofs.FieldLists.{flow_put}
use Rattle.encoding.proofs.flow.Goals as goal

pub returns : goal.returns
returns c =
    flow_put _ _ _ c.requires c.flow_user.ensures c.put_flow_fields-end.ensures c.put_top.ensures
