use Rattle.tables.proofs.Search.{Searching}
use Rattle.tables.proofs.places.place.Given as goal

abbrev pub invariant-loop-at : goal.invariant-loop-at
invariant-loop-at g l = Searching g.P.Keyed.key l.key l.live l.at
