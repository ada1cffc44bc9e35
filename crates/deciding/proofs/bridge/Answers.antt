use mathlib.Core.Path.{◌∙◌}
use Rattle.deciding.specs.Way.{headers_in, decider}
use Rattle.deciding.proofs.Tables.{in_50, bridged_out}
use Rattle.deciding.proofs.bridge.Goals as goal

pub way_out-requires : goal.way_out-requires
way_out-requires c = c.hit_in-hit.ensures.inside

pub returns : goal.returns
unfolding headers_in
returns c =
    let a = c.args in
    let d = decider a.count a.rows.now a.order.now a.firsts in
    c.way_out.ensures ∙ bridged_out d a.port (headers_in a.h) (in_50 a.count a.rows.now a.order.now a.firsts _ c.hit_in-hit.ensures)
