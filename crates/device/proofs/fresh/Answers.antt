-- `device::fresh` meets its contract.
-- Assumes nothing.
use Rattle.std.proofs.Common.{◌≡◌, arith}
use Rattle.std.specs.Prelude.{Err}
use Rattle.device.proofs.Outcome.{cleared, made, not_made}
use Rattle.device.proofs.fresh.Goals as goal

pub returns-in_err-registers : goal.returns-in_err-registers
returns-in_err-registers c =
    let passed : c.from_residual.result ≡ Err c.in_err-registers.field-0.0 = grind arith in
    rw passed (not_made _ _ _ _ c.in_err-registers.ensures)

pub returns : goal.returns
returns c =
    let made_of = c.in_ok-registers.ensures in
    rw c.empty.ensures (made _ _ _ _ _ made_of.0 made_of.1 (cleared c.clear.ensures))
