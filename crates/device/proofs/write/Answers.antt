-- `device::write` meets its contract.
-- Assumes nothing.
use Rattle.std.proofs.Common.{◌≡◌, arith}
use Rattle.std.specs.Prelude.{Err}
use Rattle.device.proofs.Outcome.{write_done, write_refused}
use Rattle.device.proofs.write.Goals as goal

pub returns-in_err-w : goal.returns-in_err-w
returns-in_err-w c =
    let passed : c.from_residual.result ≡ Err c.in_err-w.field-0.0 = grind arith in
    λ a b. rw passed (write_refused _ a b _ _ _ _ c.in_err-w.ensures)

pub returns : goal.returns
returns c = λ a b. rw (c.quiet.ensures, c.written_to.ensures) (write_done _ a b _ _ _ _ c.in_ok-w.ensures)
