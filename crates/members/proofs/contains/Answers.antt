use Rattle.std.proofs.Common.{refl, sym, ◌∙◌}
use Rattle.members.proofs.Collect.{found_next, found_end}
use Rattle.members.proofs.contains.Goals as goal

pub loop-other-init : goal.loop-other-init
loop-other-init c = refl

pub loop-other-preserved : goal.loop-other-preserved
loop-other-preserved c =
    let l = c.loop-other in
    sym (found_next _ _ l.other-index l.there c.loop-other-test.true) ∙ l.invariant

pub returns : goal.returns
returns c = found_end _ _ c.loop-other.other-index c.loop-other.there c.loop-other-test.false ∙ c.loop-other.invariant
