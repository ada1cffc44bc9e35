-- The slot is closed, and the new one is sought in what is left.
-- Assumes nothing.
use Prim.Native.Nat.{◌+◌, ◌-◌}
use mathlib.Core.Path.{◌≡◌}
use lib.ListN.{length}
use native.Mathlib.Omega.{arith}
use Rattle.ordering.proofs.change.Goals as goal

pub returns : goal.returns
returns c =
    let n = length c.args.flows.now in
    let e : n - 1 + 1 ≡ n = omega arith in
    rw (← c.own_slot-own.ensures.0, ← c.close.ensures.0, ← c.slot-s.ensures.0) (rw e at c.«open».ensures.0)
