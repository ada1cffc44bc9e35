use mathlib.Core.Path.{sym}
use Rattle.ring.proofs.Sizes.{power_by_count}
use Rattle.ring.proofs.is_size.Goals as goal

pub returns : goal.returns
returns c = sym (power_by_count 16 _)
