use Rattle.std.proofs.Common.{refl}
use Rattle.rules.specs.Tables.{none_live}
use Rattle.rules.specs.Engine.{no_order}
use Rattle.device.proofs.empty.Goals as goal

pub returns : goal.returns
unfolding none_live no_order
returns c = refl
