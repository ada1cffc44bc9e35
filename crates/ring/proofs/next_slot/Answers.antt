use Rattle.rules.specs.Ring.{next_slot}
use Prim.Native.Nat.{◌+◌}
use borrow.Author.Tests.{lt-ltb, le-ltb}
use native.Mathlib.Omega.{arith}
use Rattle.ring.proofs.next_slot.Goals as goal

pub returns-then-i-size-2 : goal.returns-then-i-size-2
unfolding next_slot
returns-then-i-size-2 c = simp (lt-ltb _ _ c.if-i-size-2.true)

pub returns-else-i-size-2 : goal.returns-else-i-size-2
unfolding next_slot
returns-else-i-size-2 c = simp (le-ltb _ _ c.if-i-size-2.false)

pub returns-else-i-size : goal.returns-else-i-size
unfolding next_slot
returns-else-i-size c = simp (le-ltb (c.args.i + 1) c.args.size (omega arith))
