use Rattle.rules.specs.Bytes.{le}
use lib.ListN.{length, drop}
use mathlib.Core.Path.{◌≡◌}
use Prim.Native.Nat.{◌≤◌, ◌-◌, min}
use Rattle.wire.proofs.front.Given as goal

abbrev pub invariant-loop-k : goal.invariant-loop-k
invariant-loop-k l = (l.k ≤ min l.n 8) × (l.k ≤ length l.s) × (l.v ≡ le (min l.n 8 - l.k) (drop l.k l.s))

abbrev pub decreases-loop-k : goal.decreases-loop-k
decreases-loop-k l = l.k
