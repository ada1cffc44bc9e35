use mathlib.Core.Path.{◌∙◌}
use Rattle.deciding.specs.Way.{headers_in, decider}
use Rattle.deciding.proofs.Tables.{in_30, routed_out, too_short, nowhere}
use Rattle.deciding.proofs.route.Goals as goal

pub way_out-requires : goal.way_out-requires
way_out-requires c = c.hit_in-hit.ensures.inside

pub returns-then-h : goal.returns-then-h
unfolding headers_in
returns-then-h c =
    let a = c.args in
    let d = decider a.count a.rows.now a.order.now a.firsts in
    let hit = in_30 a.count a.rows.now a.order.now a.firsts _ c.hit_in-hit.ensures in
    c.way_out.ensures ∙ routed_out d a.port (headers_in a.h) c.if-h.true hit

pub returns : goal.returns
unfolding headers_in
returns c =
    let a = c.args in
    let d = decider a.count a.rows.now a.order.now a.firsts in
    nowhere _ c.dropped.ensures ∙ too_short d (headers_in a.h) c.if-h.false
