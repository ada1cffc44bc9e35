use Rattle.std.proofs.Common.{sym, ◌∙◌, arith}
use Rattle.ports.proofs.Bitmaps.{count_small}
use Rattle.registers.proofs.fresh.Goals as goal

pub overflow_cast-ports : goal.overflow_cast-ports
overflow_cast-ports c =
    let f = c.port_count_allowed in
    omega (arith, count_small c.args.ports (sym f.ensures ∙ c.if-not-port_count_allowed.false))
