use Prim.Native.Nat.{◌-◌}
use Rattle.deciding.specs.Way.{headers_in, matches_in}
use Rattle.deciding.proofs.Search.{Bounds, Searched}
use Rattle.deciding.proofs.hit_in.Given as goal

abbrev pub invariant-loop-i : goal.invariant-loop-i
invariant-loop-i l =
    Bounds l.count l.rows l.order l.to l.n l.end × Searched l.count l.rows l.order l.from l.to (matches_in l.table l.port (headers_in l.h)) l.i

abbrev pub decreases-loop-i : goal.decreases-loop-i
decreases-loop-i l = l.end - l.i
