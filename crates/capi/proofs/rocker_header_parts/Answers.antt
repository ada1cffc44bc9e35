-- `capi::rocker_header_parts` meets its contract.
-- Assumes nothing.
use Rattle.rules.specs.declared.Request.TheVariants.{Header}
use Rattle.device.specs.Outcome.{borrowed}
use Rattle.capi.specs.Outcome.{told_in}
use Rattle.capi.proofs.Outcomes.{looked_at, header_stays}
use Rattle.capi.proofs.rocker_header_parts.Goals as goal

pub returns : goal.returns
unfolding told_in
returns c =
    λ a memory frame list.
    let o = c.header-r.ensures a memory frame list in
    looked_at _ _ a (borrowed memory frame _ list) Header c.device_of.ensures o (rw (c.told.ensures, o.told_is)) c.answer_of.ensures (header_stays _ _)
