-- Each arm hands on the rule's answer for its kind, or the fault that it met.
use Rattle.std.proofs.lemmas.Result.{err_from_is_err_and}
use Rattle.rules.specs.Members.{pad}
use Rattle.rules.specs.Decode.{command_in}
use Rattle.rules.specs.declared.Command.TheVariants.{FlowAdd, FlowMod, FlowDel, GroupAdd, GroupMod, GroupDel}
use Rattle.command.proofs.Answering.{plain_fault, plain, listing_fault, listing}
use Rattle.command.proofs.command_in.Goals as goal

pub returns-in_err-flow_in-in-FlowAdd : goal.returns-in_err-flow_in-in-FlowAdd
unfolding command_in
returns-in_err-flow_in-in-FlowAdd c =
    rw c.in-FlowAdd.is (plain_fault FlowAdd _ _ _ _ (c.flow_in.ensures FlowAdd) c.in_err-flow_in-in-FlowAdd.was (err_from_is_err_and c.from_residual.result c.from_residual.ensures.1))

pub returns-in_ok-flow_in-in-FlowAdd : goal.returns-in_ok-flow_in-in-FlowAdd
unfolding command_in pad
returns-in_ok-flow_in-in-FlowAdd c = rw c.in-FlowAdd.is (plain FlowAdd _ _ _ (c.flow_in.ensures FlowAdd) c.in_ok-flow_in-in-FlowAdd.was)

pub returns-in_err-flow_in-in-FlowMod : goal.returns-in_err-flow_in-in-FlowMod
unfolding command_in
returns-in_err-flow_in-in-FlowMod c =
    rw c.in-FlowMod.is (plain_fault FlowMod _ _ _ _ (c.flow_in-in-FlowMod.ensures FlowMod) c.in_err-flow_in-in-FlowMod.was (err_from_is_err_and c.from_residual-in_err-flow_in-in-FlowMod.result c.from_residual-in_err-flow_in-in-FlowMod.ensures.1))

pub returns-in_ok-flow_in-in-FlowMod : goal.returns-in_ok-flow_in-in-FlowMod
unfolding command_in pad
returns-in_ok-flow_in-in-FlowMod c = rw c.in-FlowMod.is (plain FlowMod _ _ _ (c.flow_in-in-FlowMod.ensures FlowMod) c.in_ok-flow_in-in-FlowMod.was)

pub returns-in_err-flow_key_in-in-FlowDel : goal.returns-in_err-flow_key_in-in-FlowDel
unfolding command_in
returns-in_err-flow_key_in-in-FlowDel c =
    rw c.in-FlowDel.is (plain_fault FlowDel _ _ _ _ c.flow_key_in.ensures c.in_err-flow_key_in-in-FlowDel.was (err_from_is_err_and c.from_residual-in_err-flow_key_in-in-FlowDel.result c.from_residual-in_err-flow_key_in-in-FlowDel.ensures.1))

pub returns-in_ok-flow_key_in-in-FlowDel : goal.returns-in_ok-flow_key_in-in-FlowDel
unfolding command_in pad
returns-in_ok-flow_key_in-in-FlowDel c = rw c.in-FlowDel.is (plain FlowDel _ _ _ c.flow_key_in.ensures c.in_ok-flow_key_in-in-FlowDel.was)

pub returns-in_err-group-in-GroupAdd : goal.returns-in_err-group-in-GroupAdd
unfolding command_in
returns-in_err-group-in-GroupAdd c =
    rw c.in-GroupAdd.is (listing_fault GroupAdd _ _ _ _ (c.group_in.ensures GroupAdd) c.in_err-group-in-GroupAdd.was (err_from_is_err_and c.from_residual-in_err-group-in-GroupAdd.result c.from_residual-in_err-group-in-GroupAdd.ensures.1))

pub returns-in_ok-group-in-GroupAdd : goal.returns-in_ok-group-in-GroupAdd
unfolding command_in pad
returns-in_ok-group-in-GroupAdd c = rw c.in-GroupAdd.is (listing GroupAdd _ _ _ _ (c.group_in.ensures GroupAdd) c.in_ok-group-in-GroupAdd.was)

pub returns-in_err-group-in-GroupMod : goal.returns-in_err-group-in-GroupMod
unfolding command_in
returns-in_err-group-in-GroupMod c =
    rw c.in-GroupMod.is (listing_fault GroupMod _ _ _ _ (c.group_in-in-GroupMod.ensures GroupMod) c.in_err-group-in-GroupMod.was (err_from_is_err_and c.from_residual-in_err-group-in-GroupMod.result c.from_residual-in_err-group-in-GroupMod.ensures.1))

pub returns-in_ok-group-in-GroupMod : goal.returns-in_ok-group-in-GroupMod
unfolding command_in pad
returns-in_ok-group-in-GroupMod c = rw c.in-GroupMod.is (listing GroupMod _ _ _ _ (c.group_in-in-GroupMod.ensures GroupMod) c.in_ok-group-in-GroupMod.was)

pub returns-in_err-group_key_in-in-GroupDel : goal.returns-in_err-group_key_in-in-GroupDel
unfolding command_in
returns-in_err-group_key_in-in-GroupDel c =
    rw c.in-GroupDel.is (plain_fault GroupDel _ _ _ _ c.group_key_in.ensures c.in_err-group_key_in-in-GroupDel.was (err_from_is_err_and c.from_residual-in_err-group_key_in-in-GroupDel.result c.from_residual-in_err-group_key_in-in-GroupDel.ensures.1))

pub returns-in_ok-group_key_in-in-GroupDel : goal.returns-in_ok-group_key_in-in-GroupDel
unfolding command_in pad
returns-in_ok-group_key_in-in-GroupDel c = rw c.in-GroupDel.is (plain GroupDel _ _ _ c.group_key_in.ensures c.in_ok-group_key_in-in-GroupDel.was)
