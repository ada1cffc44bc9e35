use Rattle.encoding.proofs.FieldLists.{address_put, mask_put, plain_put, not_wide}
use borrow.Author.Rules.{rules}
use Rattle.encoding.proofs.put_flow_value.Goals as goal

pub returns-then-t-eq-DST_IPV6 : goal.returns-then-t-eq-DST_IPV6
returns-then-t-eq-DST_IPV6 c =
    address_put _ _ c.if-t-eq-DST_IPV6.true c.put_wide.ensures

pub returns-then-t-eq-DST_IPV6_MASK : goal.returns-then-t-eq-DST_IPV6_MASK
returns-then-t-eq-DST_IPV6_MASK c =
    mask_put _ _ c.if-t-eq-DST_IPV6_MASK.true c.ones.ensures c.more_ones.ensures c.put_wide-then-t-eq-DST_IPV6_MASK.ensures

pub flow_value-requires : goal.flow_value-requires
flow_value-requires c = not_wide _ c.if-t-eq-DST_IPV6.false c.if-t-eq-DST_IPV6_MASK.false

pub put_field-requires : goal.put_field-requires
put_field-requires c =
    (search rules, not_wide _ c.if-t-eq-DST_IPV6.false c.if-t-eq-DST_IPV6_MASK.false)

pub returns : goal.returns
returns c =
    plain_put _ _ c.flow_value.ensures c.put_field.ensures
