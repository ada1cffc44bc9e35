-- `capi::rocker_read_parts` meets its contract.
-- Assumes nothing.
use Rattle.rules.specs.declared.Request.TheVariants.{Read}
use Rattle.capi.specs.Outcome.{told_in}
use Rattle.capi.proofs.Outcomes.{looked_at, read_stays}
use Rattle.capi.proofs.rocker_read_parts.Goals as goal

pub returns : goal.returns
unfolding told_in
returns c =
    λ a b.
    let o = c.read-r.ensures a b in
    looked_at _ _ a b (Read _ _) c.device_of.ensures o (rw (c.told.ensures, o.told_is)) c.answer_of.ensures (read_stays _ b _ _)
