-- Groups are listed behind flows (Whole).
-- Assumes nothing.
use Rattle.rules.specs.Tables.{tables_of}
use Rattle.listing.proofs.Whole.{flows_in_order, groups_in_order, below_small, list_small, both_listed}
use native.Mathlib.Omega.{arith}
use Rattle.listing.proofs.both.Goals as goal

pub flows-a-requires : goal.flows-a-requires
flows-a-requires c =
    (flows_in_order _ _ c.requires.0, below_small c.requires.1)

pub groups-requires : goal.groups-requires
groups-requires c =
    (groups_in_order _ _ c.requires.0, list_small c.flows-a.ensures c.requires.1 (omega arith))

pub returns : goal.returns
unfolding tables_of
returns c =
    both_listed _ _ _ _ _ c.flows-a.ensures c.groups.ensures
