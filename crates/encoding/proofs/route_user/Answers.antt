use Rattle.rules.specs.Decode.{flow_user}
use Rattle.encoding.proofs.route_user.Goals as goal

pub returns-then-is_ipv6 : goal.returns-then-is_ipv6
unfolding flow_user
returns-then-is_ipv6 c = rw (← c.is_ipv6.ensures, c.if-is_ipv6.true)

pub returns : goal.returns
unfolding flow_user
returns c = rw (← c.is_ipv6.ensures, c.if-is_ipv6.false)
