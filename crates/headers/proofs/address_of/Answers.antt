use mathlib.Core.Path.{sym, ◌∙◌}
use Rattle.headers.proofs.Addresses.{in_ipv6, in_ipv4}
use Rattle.headers.proofs.address_of.Goals as goal

pub returns-then-is_ipv6 : goal.returns-then-is_ipv6
returns-then-is_ipv6 c =
    let a = c.args in
    in_ipv6 a.f.now a.ethertype a.at _ _ (sym c.is_ipv6.ensures ∙ c.if-is_ipv6.true) c.be128.ensures

pub returns : goal.returns
returns c =
    let a = c.args in
    in_ipv4 a.f.now a.ethertype a.at _ (sym c.is_ipv6.ensures ∙ c.if-is_ipv6.false) c.be.ensures
