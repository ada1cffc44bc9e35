use Prim.Native.Nat.{◌≤◌}
use Rattle.deciding.specs.Way.{headers_in, matches_in}
use Rattle.plain.specs.Scan.{Skips}
use Rattle.plain.proofs.scan.skip.Given as goal

abbrev pub invariant-loop-i : goal.invariant-loop-i
invariant-loop-i l =
    (l.i ≤ 256) × Skips l.rows (matches_in l.table l.port (headers_in l.h)) l.from l.i

abbrev pub decreases-loop-i : goal.decreases-loop-i
decreases-loop-i l = l.i
