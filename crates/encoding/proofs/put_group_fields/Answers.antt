use native.Mathlib.Omega.{arith}
use Rattle.encoding.proofs.FieldLists.{key_put, user_del, user_single, user_routing, user_many, by_user}
use Rattle.encoding.proofs.put_group_fields.Goals as goal

pub returns-then-command-eq-GROUP_DEL : goal.returns-then-command-eq-GROUP_DEL
returns-then-command-eq-GROUP_DEL c =
    by_user _ _ _ (user_del _ _ c.if-command-eq-GROUP_DEL.true) (omega arith) (key_put _ c.put_field.ensures)

pub returns-then-t-eq0 : goal.returns-then-t-eq0
returns-then-t-eq0 c =
    by_user _ _ _ (user_single _ _ c.if-command-eq-GROUP_DEL.false c.type_of-t.ensures c.if-t-eq0.true) (omega arith) c.put_single.ensures

pub returns-then-is_routing : goal.returns-then-is_routing
returns-then-is_routing c =
    by_user _ _ _ (user_routing _ _ c.if-command-eq-GROUP_DEL.false c.type_of-t.ensures c.if-t-eq0.false c.is_routing.ensures c.if-is_routing.true) (omega arith)
    c.put_routing.ensures

pub returns : goal.returns
returns c =
    by_user _ _ _ (user_many _ _ c.if-command-eq-GROUP_DEL.false c.type_of-t.ensures c.if-t-eq0.false c.is_routing.ensures c.if-is_routing.false) (omega arith)
    c.put_many.ensures
