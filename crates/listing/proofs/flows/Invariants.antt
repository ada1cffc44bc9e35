use Rattle.rules.specs.Tables.{cookie_of, live_flows}
use Rattle.rules.specs.Undo.{flow_run}
use Rattle.listing.proofs.Runs.{Running, left}
use Rattle.listing.proofs.flows.Given as goal

abbrev pub invariant-loop-more : goal.invariant-loop-more
invariant-loop-more l =
    Running cookie_of (flow_run l.command l.there (live_flows l.other_counts.flows l.other.flows)) 256 (live_flows l.counts.flows l.places.flows) l.initial.listed l.initial.out l.listed l.started l.key l.more l.out

abbrev pub decreases-loop-more : goal.decreases-loop-more
decreases-loop-more l =
    left cookie_of l.started l.key (live_flows l.counts.flows l.places.flows) l.more
