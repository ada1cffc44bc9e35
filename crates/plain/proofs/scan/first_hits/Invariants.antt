use Rattle.deciding.specs.Way.{headers_in, matches_in}
use Rattle.plain.specs.Scan.{Scanned, Lacks}
use Rattle.plain.proofs.scan.first_hits.Given as goal

abbrev pub invariant-loop-i : goal.invariant-loop-i
invariant-loop-i l =
    Scanned l.count l.rows (matches_in 0 l.port (headers_in l.h)) l.i l.first.found l.first.at
    × Scanned l.count l.rows (matches_in 10 l.port (headers_in l.h)) l.i l.second.found l.second.at
    × Lacks l.count l.rows l.i l.terminates

abbrev pub decreases-loop-i : goal.decreases-loop-i
decreases-loop-i l = l.i
