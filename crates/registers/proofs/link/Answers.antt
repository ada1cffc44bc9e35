use Rattle.std.proofs.Common.{sym, ◌∙◌, arith}
use Rattle.ports.proofs.Bitmaps.{port_small}
use Rattle.registers.proofs.link.Goals as goal

pub links_after-requires : goal.links_after-requires
links_after-requires c =
    let f = c.port_allowed in
    let a = c.args in
    omega (arith, port_small a.d a.port (sym f.ensures ∙ c.if-not-port_allowed.false))
