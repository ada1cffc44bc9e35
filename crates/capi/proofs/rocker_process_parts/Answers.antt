-- `capi::rocker_process_parts` meets its contract.
-- Assumes nothing.
use Rattle.rules.specs.declared.Request.TheVariants.{Process}
use Rattle.device.specs.Outcome.{borrowed}
use Rattle.capi.specs.Outcome.{told_in}
use Rattle.capi.proofs.Outcomes.{stored}
use Rattle.capi.proofs.rocker_process_parts.Goals as goal

pub returns : goal.returns
unfolding told_in
returns c =
    λ frame list.
    let o = c.process-r.ensures frame list in
    stored _ _ _ (borrowed _ frame _ list) Process c.device_of-d.ensures o (rw (c.told.ensures, o.told_is)) c.store.ensures
