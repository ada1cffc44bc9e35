use Rattle.headers.proofs.has_header.Goals as goal

pub returns-then-is_ipv6 : goal.returns-then-is_ipv6
returns-then-is_ipv6 c = rw (← c.is_ipv6.ensures, c.if-is_ipv6.true)

pub returns : goal.returns
returns c = rw (← c.is_ipv6.ensures, c.if-is_ipv6.false)
