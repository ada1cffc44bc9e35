-- `capi::rocker_write_parts` meets its contract.
-- Assumes nothing.
use Rattle.rules.specs.declared.Request.TheVariants.{Write}
use Rattle.capi.specs.Outcome.{told_in}
use Rattle.capi.proofs.Outcomes.{stored}
use Rattle.capi.proofs.rocker_write_parts.Goals as goal

pub returns : goal.returns
unfolding told_in
returns c =
    λ a x.
    let o = c.write-r.ensures a x in
    stored _ _ a x (Write _ _ _) c.device_of.ensures o (rw (c.told.ensures, o.told_is)) c.store.ensures
