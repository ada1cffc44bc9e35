-- One return a command: each is the law of its table, and the other table stays.
-- Assumes nothing.
use Rattle.std.proofs.lemmas.Result.{err_from_is_err_and}
use Rattle.execute.proofs.Carried.{flow_added, flow_replaced, flow_removed}
use Rattle.execute.proofs.command.Goals as goal

pub returns-in_ok-live-in-FlowAdd-clause-outcome : goal.returns-in_ok-live-in-FlowAdd-clause-outcome
returns-in_ok-live-in-FlowAdd-clause-outcome c = rw c.in-FlowAdd.is (flow_added _ _ _ _ _ _ _ _ c.flow_entry.ensures c.in_ok-live-in-FlowAdd.ensures.outcome)

pub returns-in_err-live-in-FlowAdd-clause-outcome : goal.returns-in_err-live-in-FlowAdd-clause-outcome
returns-in_err-live-in-FlowAdd-clause-outcome c =
    let p = err_from_is_err_and c.from_residual.result c.from_residual.ensures.1 in
    rw (p.1, p.2, c.in-FlowAdd.is) (flow_added _ _ _ _ _ _ _ _ c.flow_entry.ensures c.in_err-live-in-FlowAdd.ensures.outcome)

pub returns-in_ok-live-in-FlowMod-clause-outcome : goal.returns-in_ok-live-in-FlowMod-clause-outcome
returns-in_ok-live-in-FlowMod-clause-outcome c = rw c.in-FlowMod.is (flow_replaced _ _ _ _ _ _ _ _ c.flow_entry-in-FlowMod.ensures c.in_ok-live-in-FlowMod.ensures.outcome)

pub returns-in_err-live-in-FlowMod-clause-outcome : goal.returns-in_err-live-in-FlowMod-clause-outcome
returns-in_err-live-in-FlowMod-clause-outcome c =
    let p = err_from_is_err_and c.from_residual-in_err-live-in-FlowMod.result c.from_residual-in_err-live-in-FlowMod.ensures.1 in
    rw (p.1, p.2, c.in-FlowMod.is) (flow_replaced _ _ _ _ _ _ _ _ c.flow_entry-in-FlowMod.ensures c.in_err-live-in-FlowMod.ensures.outcome)

pub returns-in_ok-live-in-FlowDel-clause-outcome : goal.returns-in_ok-live-in-FlowDel-clause-outcome
returns-in_ok-live-in-FlowDel-clause-outcome c = rw c.in-FlowDel.is (flow_removed _ _ _ _ _ _ _ c.in_ok-live-in-FlowDel.ensures.outcome)

pub returns-in_err-live-in-FlowDel-clause-outcome : goal.returns-in_err-live-in-FlowDel-clause-outcome
returns-in_err-live-in-FlowDel-clause-outcome c =
    let p = err_from_is_err_and c.from_residual-in_err-live-in-FlowDel.result c.from_residual-in_err-live-in-FlowDel.ensures.1 in
    rw (p.1, p.2, c.in-FlowDel.is) (flow_removed _ _ _ _ _ _ _ c.in_err-live-in-FlowDel.ensures.outcome)

pub returns-in-GroupDel-clause-outcome : goal.returns-in-GroupDel-clause-outcome
returns-in-GroupDel-clause-outcome c = rw c.in-GroupDel.is ((c.group_del.ensures.outcome _).commands _)
