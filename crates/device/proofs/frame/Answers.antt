-- `device::frame` meets its contract.
-- Assumes nothing.
use Rattle.std.proofs.Common.{◌≡◌, arith}
use Rattle.std.specs.Prelude.{Err}
use Rattle.device.proofs.Framing.{frame_done, frame_refused}
use Rattle.device.proofs.frame.Goals as goal

pub returns-in_err-outputs : goal.returns-in_err-outputs
returns-in_err-outputs c =
    let passed : c.from_residual.result ≡ Err c.in_err-outputs.field-0.0 = grind arith in
    λ memory buffer. rw passed (frame_refused _ _ memory _ buffer _ _ _ _ (rw c.in_err-outputs.was at c.frame.ensures))

pub returns : goal.returns
returns c = λ memory buffer. rw c.quiet.ensures (frame_done _ _ memory _ buffer _ _ _ _ (rw c.in_ok-outputs.was at c.frame.ensures))
