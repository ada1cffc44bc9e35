-- `capi::rocker_frame_parts` meets its contract.
-- Assumes nothing.
use Rattle.rules.specs.declared.Request.TheVariants.{Frame}
use Rattle.device.specs.Outcome.{borrowed}
use Rattle.capi.specs.Outcome.{told_in}
use Rattle.capi.proofs.Outcomes.{looked_at, frame_stays}
use Rattle.capi.proofs.rocker_frame_parts.Goals as goal

pub returns : goal.returns
unfolding told_in
returns c =
    λ memory buffer.
    let o = c.frame-r.ensures memory buffer in
    looked_at _ _ _ (borrowed memory _ buffer _) (Frame _) c.device_of-d.ensures o (rw (c.told.ensures, o.told_is)) c.answer_of.ensures (frame_stays _ _ _)
