use Prim.Native.Nat.{◌≤◌, ◌-◌}
use mathlib.Core.Path.{◌≡◌}
use lib.ListN.{length, take}
use Rattle.outputs.specs.Outputs.{Passed}
use Rattle.outputs.proofs.Resolving.{Resolved}
use Rattle.outputs.proofs.resolve.Given as goal

abbrev pub invariant-loop-k : goal.invariant-loop-k
invariant-loop-k l =
    (l.k ≤ l.size) × (l.size ≤ 62) × (l.size ≡ length (take l.m.count l.m.lows)) × Passed l.heads l.last l.at × Resolved l.d l.ingress l.count l.heads l.m l.initial.list l.k l.out l.list

abbrev pub decreases-loop-k : goal.decreases-loop-k
decreases-loop-k l = l.size - l.k
