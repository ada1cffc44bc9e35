use Prim.Native.Nat.{◌<◌}
use Rattle.rules.specs.Tables.{id_of, live_groups}
use Rattle.rules.specs.Undo.{group_run}
use Rattle.listing.proofs.Runs.{Running, left}
use Rattle.listing.proofs.groups.Given as goal

abbrev pub invariant-loop-more : goal.invariant-loop-more
invariant-loop-more l =
    (Running id_of (group_run l.command l.there (live_groups l.other_counts.groups l.other.heads l.other.members)) 128 (live_groups l.counts.groups l.places.heads l.places.members) l.initial.listed l.initial.out l.listed l.started l.key l.more l.out) × (l.key < 4294967296)

abbrev pub decreases-loop-more : goal.decreases-loop-more
decreases-loop-more l =
    left id_of l.started l.key (live_groups l.counts.groups l.places.heads l.places.members) l.more
