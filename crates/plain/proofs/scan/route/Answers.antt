-- What decides in table 30, and the way out by that; a frame that is too short is dropped.
-- Assumes nothing.
use mathlib.Core.Path.{◌∙◌}
use Rattle.rules.specs.Tables.{live_flows}
use Rattle.rules.specs.Engine.{decides_best}
use Rattle.deciding.specs.Way.{headers_in}
use Rattle.deciding.proofs.Tables.{too_short, routed_out, nowhere}
use Rattle.plain.proofs.scan.route.Goals as goal

pub way_out-requires : goal.way_out-requires
way_out-requires c = c.hit_in-hit.ensures.inside

pub returns-then-h : goal.returns-then-h
unfolding headers_in
returns-then-h c =
    let a = c.args in
    c.way_out.ensures ∙ routed_out (decides_best (live_flows a.count a.rows.now)) a.port (headers_in a.h) c.if-h.true c.hit_in-hit.ensures

pub returns : goal.returns
unfolding headers_in
returns c =
    let a = c.args in
    nowhere _ c.dropped.ensures ∙ too_short (decides_best (live_flows a.count a.rows.now)) (headers_in a.h) c.if-h.false
