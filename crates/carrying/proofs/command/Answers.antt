-- Each arm is one law of Carrying.
-- Assumes nothing.
use Rattle.std.specs.Prelude.{Ok, Err}
use Rattle.std.proofs.lemmas.Result.{err_from_is_err_and}
use Rattle.carrying.proofs.Carrying.{flow_add, flow_mod, flow_del, group_add, group_mod, group_del}
use Rattle.carrying.proofs.command.Goals as goal

pub returns-in_ok-flows-in-FlowAdd-clause-outcome : goal.returns-in_ok-flows-in-FlowAdd-clause-outcome
returns-in_ok-flows-in-FlowAdd-clause-outcome c =
    let k = c.in_ok-flows-in-FlowAdd in
    rw c.in-FlowAdd.is (flow_add _ _ _ _ _ (k.flows, k.firsts) _ _ _ _ _ c.flow_entry-e.ensures k.ensures.outcome.0 k.ensures.outcome.1)

pub returns-in_err-flows-in-FlowAdd-clause-outcome : goal.returns-in_err-flows-in-FlowAdd-clause-outcome
returns-in_err-flows-in-FlowAdd-clause-outcome c =
    let p = err_from_is_err_and c.from_residual.result c.from_residual.ensures.1 in
    let k = c.in_err-flows-in-FlowAdd in
    rw (p.1, p.2, c.in-FlowAdd.is) (flow_add _ _ _ _ _ (c.args.counts.flows, c.args.firsts) _ _ _ _ _ c.flow_entry-e.ensures k.ensures.outcome.0 k.ensures.outcome.1)

pub returns-in_ok-flows-in-FlowMod-clause-outcome : goal.returns-in_ok-flows-in-FlowMod-clause-outcome
returns-in_ok-flows-in-FlowMod-clause-outcome c =
    let k = c.in_ok-flows-in-FlowMod in
    rw c.in-FlowMod.is (flow_mod _ _ _ _ _ (k.flows, k.firsts) _ _ _ _ _ c.flow_entry-e-in-FlowMod.ensures k.ensures.outcome.0 k.ensures.outcome.1)

pub returns-in_err-flows-in-FlowMod-clause-outcome : goal.returns-in_err-flows-in-FlowMod-clause-outcome
returns-in_err-flows-in-FlowMod-clause-outcome c =
    let p = err_from_is_err_and c.from_residual-in_err-flows-in-FlowMod.result c.from_residual-in_err-flows-in-FlowMod.ensures.1 in
    let k = c.in_err-flows-in-FlowMod in
    rw (p.1, p.2, c.in-FlowMod.is) (flow_mod _ _ _ _ _ (c.args.counts.flows, c.args.firsts) _ _ _ _ _ c.flow_entry-e-in-FlowMod.ensures k.ensures.outcome.0 k.ensures.outcome.1)

pub returns-in_ok-flows-in-FlowDel-clause-outcome : goal.returns-in_ok-flows-in-FlowDel-clause-outcome
returns-in_ok-flows-in-FlowDel-clause-outcome c =
    let k = c.in_ok-flows-in-FlowDel in
    rw c.in-FlowDel.is (flow_del _ _ _ _ _ (k.flows, k.firsts) _ _ _ _ k.ensures.outcome.0 k.ensures.outcome.1)

pub returns-in_err-flows-in-FlowDel-clause-outcome : goal.returns-in_err-flows-in-FlowDel-clause-outcome
returns-in_err-flows-in-FlowDel-clause-outcome c =
    let p = err_from_is_err_and c.from_residual-in_err-flows-in-FlowDel.result c.from_residual-in_err-flows-in-FlowDel.ensures.1 in
    let k = c.in_err-flows-in-FlowDel in
    rw (p.1, p.2, c.in-FlowDel.is) (flow_del _ _ _ _ _ (c.args.counts.flows, c.args.firsts) _ _ _ _ k.ensures.outcome.0 k.ensures.outcome.1)

pub returns-in_ok-group_add-in-GroupAdd-clause-outcome : goal.returns-in_ok-group_add-in-GroupAdd-clause-outcome
returns-in_ok-group_add-in-GroupAdd-clause-outcome c =
    let x = c.in_ok-group_add-in-GroupAdd in
    rw c.in-GroupAdd.is (group_add _ _ _ _ _ _ _ _ _ (Ok x.field-0) _ x.ensures.outcome)

pub returns-in_err-group_add-in-GroupAdd-clause-outcome : goal.returns-in_err-group_add-in-GroupAdd-clause-outcome
returns-in_err-group_add-in-GroupAdd-clause-outcome c =
    let p = err_from_is_err_and c.from_residual-in_err-group_add-in-GroupAdd.result c.from_residual-in_err-group_add-in-GroupAdd.ensures.1 in
    let x = c.in_err-group_add-in-GroupAdd in
    rw (p.1, p.2, c.in-GroupAdd.is) (group_add _ _ _ _ _ _ _ _ _ (Err x.field-0.0) _ x.ensures.outcome)

pub returns-in_ok-group_mod-in-GroupMod-clause-outcome : goal.returns-in_ok-group_mod-in-GroupMod-clause-outcome
returns-in_ok-group_mod-in-GroupMod-clause-outcome c =
    let x = c.in_ok-group_mod-in-GroupMod in
    rw c.in-GroupMod.is (group_mod _ _ _ _ _ _ _ _ _ (Ok x.field-0) _ x.ensures.outcome)

pub returns-in_err-group_mod-in-GroupMod-clause-outcome : goal.returns-in_err-group_mod-in-GroupMod-clause-outcome
returns-in_err-group_mod-in-GroupMod-clause-outcome c =
    let p = err_from_is_err_and c.from_residual-in_err-group_mod-in-GroupMod.result c.from_residual-in_err-group_mod-in-GroupMod.ensures.1 in
    let x = c.in_err-group_mod-in-GroupMod in
    rw (p.1, p.2, c.in-GroupMod.is) (group_mod _ _ _ _ _ _ _ _ _ (Err x.field-0.0) _ x.ensures.outcome)

pub returns-in_ok-group_del-in-GroupDel-clause-outcome : goal.returns-in_ok-group_del-in-GroupDel-clause-outcome
returns-in_ok-group_del-in-GroupDel-clause-outcome c =
    let x = c.in_ok-group_del-in-GroupDel in
    rw c.in-GroupDel.is (group_del _ _ _ _ _ _ _ _ _ (Ok x.field-0) _ (x.ensures.outcome _))

pub returns-in_err-group_del-in-GroupDel-clause-outcome : goal.returns-in_err-group_del-in-GroupDel-clause-outcome
returns-in_err-group_del-in-GroupDel-clause-outcome c =
    let p = err_from_is_err_and c.from_residual-in_err-group_del-in-GroupDel.result c.from_residual-in_err-group_del-in-GroupDel.ensures.1 in
    let x = c.in_err-group_del-in-GroupDel in
    rw (p.1, p.2, c.in-GroupDel.is) (group_del _ _ _ _ _ _ _ _ _ (Err x.field-0.0) _ (x.ensures.outcome _))
