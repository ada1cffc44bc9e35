use mathlib.Core.Path.{refl}
use Rattle.rules.specs.GroupId.{member_id}
use Rattle.outputs.proofs.member_id.Goals as goal

pub returns : goal.returns
unfolding member_id
returns c = refl
