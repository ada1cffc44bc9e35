-- `device::read` meets its contract.
-- Assumes nothing.
use Rattle.std.proofs.Common.{◌≡◌, arith}
use Rattle.std.specs.Prelude.{Err}
use Rattle.device.proofs.Outcome.{read_done, read_refused}
use Rattle.device.proofs.read.Goals as goal

pub returns-in_err-value : goal.returns-in_err-value
returns-in_err-value c =
    let passed : c.from_residual.result ≡ Err c.in_err-value.field-0.0 = grind arith in
    λ a b. rw passed (read_refused _ a b _ _ _ c.in_err-value.ensures)

pub returns : goal.returns
returns c =
    let h = c.in_ok-value.ensures in
    λ a b. rw c.quiet.ensures (read_done _ a b _ _ _ h.0 h.1)
