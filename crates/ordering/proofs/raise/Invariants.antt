use mathlib.Core.Path.{◌≡◌}
use Rattle.rules.specs.Engine.{raise}
use Rattle.ordering.proofs.Moved.{first}
use Rattle.ordering.proofs.raise.Given as goal

abbrev pub invariant-loop-place : goal.invariant-loop-place
invariant-loop-place l = l.order ≡ first (raise l.at) l.place-index l.initial.order
