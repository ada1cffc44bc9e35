-- Where the rank is the same the order stays; else the flow goes to where the new one belongs.
-- Assumes nothing.
use mathlib.Core.Path.{sym, ◌∙◌}
use Rattle.carrying.proofs.Ordering.{same_rank_lem, new_rank}
use Rattle.carrying.proofs.ranked.Goals as goal

pub returns-then-same_rank : goal.returns-then-same_rank
returns-then-same_rank c =
    same_rank_lem c.args.flows.now _ c.entry_of-old.ensures _ _ _ (sym c.same_rank.ensures ∙ c.if-same_rank.true)

pub returns : goal.returns
returns c =
    new_rank c.args.flows.now _ c.entry_of-old.ensures _ _ _ _ _ (sym c.same_rank.ensures ∙ c.if-same_rank.false) c.change.ensures c.firsts_without-without.ensures c.firsts_with.ensures
