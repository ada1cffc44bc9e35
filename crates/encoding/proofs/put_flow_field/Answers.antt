use Rattle.encoding.proofs.FieldLists.{field_put, field_none}
use Rattle.encoding.proofs.put_flow_field.Goals as goal

pub returns-then-has_user-flow_has : goal.returns-then-has_user-flow_has
returns-then-has_user-flow_has c =
    field_put _ _ _ (rw c.rule_of-rule.ensures at c.has_user.ensures) c.flow_has.ensures c.if-has_user-flow_has.true c.put_flow_value.ensures

pub returns : goal.returns
returns c =
    field_none _ _ _ (rw c.rule_of-rule.ensures at c.has_user.ensures) c.flow_has.ensures c.if-has_user-flow_has.false
