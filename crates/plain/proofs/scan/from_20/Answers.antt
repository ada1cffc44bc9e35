-- What decides in table 20, if a flow of it was seen, and the way on by that.
-- Assumes nothing.
use mathlib.Core.Path.{refl, ◌∙◌}
use Rattle.rules.specs.Tables.{live_flows}
use Rattle.rules.specs.Engine.{decides_best}
use Rattle.deciding.specs.Way.{headers_in}
use Rattle.deciding.proofs.Tables.{bridged_on, routed_on}
use Rattle.plain.proofs.Scanning.{missed}
use Rattle.plain.proofs.scan.from_20.Goals as goal

pub returns-then-hit : goal.returns-then-hit
unfolding headers_in
returns-then-hit c =
    let a = c.args in
    c.route.ensures ∙ routed_on (decides_best (live_flows a.count a.rows.now)) a.port (headers_in a.h) c.hit_in-hit.ensures c.if-hit.true

pub returns-then-terminates : goal.returns-then-terminates
unfolding headers_in
returns-then-terminates c =
    let a = c.args in
    c.bridge.ensures ∙ bridged_on (decides_best (live_flows a.count a.rows.now)) a.port (headers_in a.h) c.hit_in-hit.ensures c.if-hit.false

pub returns : goal.returns
unfolding headers_in
returns c =
    let a = c.args in
    c.bridge-2.ensures ∙ bridged_on (decides_best (live_flows a.count a.rows.now)) a.port (headers_in a.h) (missed a.rows.now c.requires c.if-terminates.false a.port (headers_in a.h)) refl
