use mathlib.Core.Path.{refl}
use Rattle.deciding.specs.Way.{headers_in, with_vlan}
use Rattle.deciding.proofs.with_vlan.Goals as goal

pub returns : goal.returns
unfolding headers_in with_vlan
returns c = (refl, refl)
