use Rattle.command.proofs.Routes.{route_four, route_six}
use mathlib.Core.Path.{◌∙◌, sym}
use native.Mathlib.Omega.{arith}
use Rattle.command.proofs.route.route_of.Goals as goal

pub returns-then-is_ipv6 : goal.returns-then-is_ipv6
returns-then-is_ipv6 c =
    route_six _ _ _ _ _ c.given-has_group.ensures c.word-group_id.ensures _ _ _ _ _
    (sym c.is_ipv6.ensures ∙ c.if-is_ipv6.true) c.be128-address.ensures (omega (arith, c.be128-address.type_inv)) c.be128-mask.ensures c.ipv6_length.ensures

pub returns : goal.returns
returns c =
    route_four _ _ _ _ _ c.given-has_group.ensures c.word-group_id.ensures _ _ _
    (sym c.is_ipv6.ensures ∙ c.if-is_ipv6.false) c.be32-address.ensures c.be32-mask.ensures c.ipv4_length.ensures
