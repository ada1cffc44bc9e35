use Rattle.rules.proofs.GroupId.{type_by_shift}
use Rattle.group_id.proofs.type_of.Goals as goal

pub returns : goal.returns
returns c = type_by_shift _
