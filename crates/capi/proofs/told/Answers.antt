-- The code's one vector is 0.
-- Assumes nothing.
use Rattle.std.specs.Prelude.{◌≡◌, Err}
use Rattle.rules.specs.Members.{elem}
use Rattle.device.proofs.Outcome.{vector_told}
use Rattle.capi.specs.Outcome.{bit_of, told_in}
use Rattle.capi.proofs.told.Goals as goal

pub returns-in-Ok : goal.returns-in-Ok
unfolding told_in
returns-in-Ok c =
    rw (c.in-Ok.is, vector_told c.in-Ok.called.interrupt, c.bit_of.ensures, c.bit_of-in-Ok.ensures)

pub returns-in-Err : goal.returns-in-Err
unfolding told_in bit_of elem
returns-in-Err c =
    let refused : c.args.r.now ≡ Err c.in-Err.field-0 = c.in-Err.is in
    rw refused
