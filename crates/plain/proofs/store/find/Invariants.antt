use Prim.Native.Nat.{◌-◌}
use Rattle.plain.proofs.Standing.{Seeking}
use Rattle.plain.proofs.store.find.Given as goal

abbrev pub invariant-loop-at : goal.invariant-loop-at
invariant-loop-at l = Seeking l.cookie l.n l.count l.rows l.at l.held

abbrev pub decreases-loop-at : goal.decreases-loop-at
decreases-loop-at l = l.n - l.at
