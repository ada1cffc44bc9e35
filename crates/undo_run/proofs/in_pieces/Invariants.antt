use Prim.Native.Nat.{◌-◌}
use lib.ListN.{length}
use Rattle.tables.specs.Arrays.{arrays_of}
use Rattle.undo_run.proofs.Pieces.{FedTo}
use Rattle.undo_run.proofs.in_pieces.Given as goal

abbrev pub invariant-loop-end : goal.invariant-loop-end
invariant-loop-end l =
    FedTo l.s l.n l.at l.end l.u (arrays_of l.places) (arrays_of l.early)

abbrev pub decreases-loop-end : goal.decreases-loop-end
decreases-loop-end l = length l.s - l.end
