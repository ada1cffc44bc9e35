use Prim.Native.Nat.{◌-◌}
use lib.ListN.{length}
use Rattle.tables.specs.Arrays.{arrays_of}
use Rattle.replaying.proofs.Pieces.{FedTo}
use Rattle.replay_run.proofs.in_pieces.Given as goal

abbrev pub invariant-loop-end : goal.invariant-loop-end
invariant-loop-end l =
    FedTo (arrays_of l.initial.places) l.s l.at l.end l.r (arrays_of l.places)

abbrev pub decreases-loop-end : goal.decreases-loop-end
decreases-loop-end l = length l.s - l.end
