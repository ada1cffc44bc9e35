use mathlib.Core.Path.{◌∙◌}
use Rattle.deciding.specs.Way.{headers_in, decider}
use Rattle.deciding.proofs.Tables.{in_20, bridged_on, routed_on}
use Rattle.deciding.proofs.from_20.Goals as goal

pub returns-then-hit : goal.returns-then-hit
unfolding headers_in
returns-then-hit c =
    let a = c.args in
    let d = decider a.count a.rows.now a.order.now a.firsts in
    let hit = in_20 a.count a.rows.now a.order.now a.firsts _ c.hit_in-hit.ensures in
    c.route.ensures ∙ routed_on d a.port (headers_in a.h) hit c.if-hit.true

pub returns : goal.returns
unfolding headers_in
returns c =
    let a = c.args in
    let d = decider a.count a.rows.now a.order.now a.firsts in
    let hit = in_20 a.count a.rows.now a.order.now a.firsts _ c.hit_in-hit.ensures in
    c.bridge.ensures ∙ bridged_on d a.port (headers_in a.h) hit c.if-hit.false
