use mathlib.Core.Path.{◌≡◌}
use Rattle.rules.specs.Engine.{lower}
use Rattle.ordering.proofs.Moved.{first}
use Rattle.ordering.proofs.lower.Given as goal

abbrev pub invariant-loop-place : goal.invariant-loop-place
invariant-loop-place l = l.order ≡ first (lower l.at) l.place-index l.initial.order
