-- `device::link` meets its contract.
-- Assumes nothing.
use Rattle.std.proofs.Common.{◌≡◌, arith}
use Rattle.std.specs.Prelude.{Err}
use Rattle.device.proofs.Outcome.{link_done, link_refused}
use Rattle.device.proofs.link.Goals as goal

pub returns-in_err-registers : goal.returns-in_err-registers
returns-in_err-registers c =
    let passed : c.from_residual.result ≡ Err c.in_err-registers.field-0.0 = grind arith in
    λ a b. rw passed (link_refused _ a b _ _ _ c.in_err-registers.ensures)

pub returns : goal.returns
returns c =
    let h = c.in_ok-registers.ensures in
    λ a b. rw c.quiet.ensures (link_done _ a b _ _ _ h.0 h.1)
