use Rattle.deciding.specs.Way.{headers_in, matches_in}
use Rattle.plain.specs.Scan.{Scanned}
use Rattle.plain.proofs.scan.hit_in.Given as goal

abbrev pub invariant-loop-i : goal.invariant-loop-i
invariant-loop-i l =
    Scanned l.count l.rows (matches_in l.table l.port (headers_in l.h)) l.i l.hit.found l.hit.at

abbrev pub decreases-loop-i : goal.decreases-loop-i
decreases-loop-i l = l.i
