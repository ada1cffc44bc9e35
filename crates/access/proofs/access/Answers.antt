use mathlib.Core.Path.{sym, ◌∙◌}
use Rattle.access.proofs.Reach.{access_narrow, access_eight, access_none, eight_inside}
use Rattle.access.proofs.access.Goals as goal

pub returns-then-is_narrow : goal.returns-then-is_narrow
returns-then-is_narrow c =
    rw (access_narrow _ _ (sym c.is_narrow.ensures ∙ c.if-is_narrow.true)) c.narrow_at.ensures

pub wide_at-requires : goal.wide_at-requires
wide_at-requires c = eight_inside _ _ (sym c.is_eight.ensures ∙ c.if-is_eight.true)

pub returns-then-is_eight : goal.returns-then-is_eight
returns-then-is_eight c =
    rw (access_eight _ _ (sym c.is_narrow.ensures ∙ c.if-is_narrow.false) (sym c.is_eight.ensures ∙ c.if-is_eight.true)) c.wide_at.ensures

pub returns : goal.returns
returns c =
    sym (access_none _ _ (sym c.is_narrow.ensures ∙ c.if-is_narrow.false) (sym c.is_eight.ensures ∙ c.if-is_eight.false))
