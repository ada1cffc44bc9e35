-- `capi::rocker_link_parts` meets its contract.
-- Assumes nothing.
use Rattle.rules.specs.declared.Request.TheVariants.{Link}
use mathlib.Core.Path.{refl}
use Rattle.capi.proofs.Outcomes.{no_state, refused, linking, stored}
use Rattle.capi.proofs.rocker_link_parts.Goals as goal

pub returns-then-up-gt1 : goal.returns-then-up-gt1
returns-then-up-gt1 c = λ a x. refused _ a x 2 _ _ 0 (no_state _ c.if-up-gt1.true)

pub returns : goal.returns
returns c =
    λ a x. rw (linking _ x _ _ 0 c.if-up-gt1.false)
    (stored _ _ a x (Link _ _) c.device_of.ensures (c.link-r.ensures a x) refl c.store.ensures)
