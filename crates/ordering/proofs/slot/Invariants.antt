use Prim.Native.Nat.{◌-◌}
use mathlib.Core.List.{map}
use Rattle.rules.specs.Rows.{entry_in}
use Rattle.ordering.proofs.Halving.{Halving}
use Rattle.ordering.proofs.slot.Given as goal

abbrev pub invariant-loop-low : goal.invariant-loop-low
invariant-loop-low l = Halving (map entry_in l.flows) l.order l.e l.low l.high

abbrev pub decreases-loop-low : goal.decreases-loop-low
decreases-loop-low l = l.high - l.low
