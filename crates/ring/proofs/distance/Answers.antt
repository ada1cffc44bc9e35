use native.Mathlib.Nat.{mod-lt}
use Rattle.ring.proofs.Distances.{distance_ahead, distance_behind}
use native.Mathlib.Omega.{arith}
use Rattle.ring.proofs.distance.Goals as goal

pub overflow_sub-result-else-b-a : goal.overflow_sub-result-else-b-a
overflow_sub-result-else-b-a c =
    omega (arith, c.reduced-b.ensures, mod-lt c.args.from c.requires)

pub returns-then-b-a : goal.returns-then-b-a
returns-then-b-a c =
    distance_ahead _ _ _ c.requires c.reduced-a.ensures c.reduced-b.ensures c.if-b-a.true

pub returns-else-b-a : goal.returns-else-b-a
returns-else-b-a c =
    distance_behind _ _ _ c.requires c.reduced-a.ensures c.reduced-b.ensures c.if-b-a.false
