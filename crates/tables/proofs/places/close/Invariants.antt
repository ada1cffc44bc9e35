use Prim.Native.Nat.{◌-◌}
use lib.ListN.{length}
use Rattle.tables.proofs.Slots.{Shifted}
use Rattle.tables.proofs.places.close.Given as goal

abbrev pub invariant-loop-place : goal.invariant-loop-place
invariant-loop-place g l = Shifted (length l.initial.places) l.at (l.live - 1) l.at l.place l.initial.places l.places
