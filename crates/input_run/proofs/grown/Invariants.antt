use Prim.Native.Nat.{◌≤◌}
use mathlib.Core.Path.{◌≡◌}
use lib.ListN.{length}
use Rattle.replaying.specs.Replaying.{longest}
use Rattle.input_run.proofs.grown.Given as goal

abbrev pub invariant-loop-turns : goal.invariant-loop-turns
invariant-loop-turns g l =
    (l.kept ≤ longest) × (length l.buffer ≡ length l.initial.buffer) × (length l.piece ≡ length l.initial.piece)

abbrev pub decreases-loop-turns : goal.decreases-loop-turns
decreases-loop-turns g l = l.turns
