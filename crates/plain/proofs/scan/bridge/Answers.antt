-- What decides in table 50, and the way out by that.
-- Assumes nothing.
use mathlib.Core.Path.{◌∙◌}
use Rattle.rules.specs.Tables.{live_flows}
use Rattle.rules.specs.Engine.{decides_best}
use Rattle.deciding.specs.Way.{headers_in}
use Rattle.deciding.proofs.Tables.{bridged_out}
use Rattle.plain.proofs.scan.bridge.Goals as goal

pub way_out-requires : goal.way_out-requires
way_out-requires c = c.hit_in-hit.ensures.inside

pub returns : goal.returns
unfolding headers_in
returns c =
    let a = c.args in
    c.way_out.ensures ∙ bridged_out (decides_best (live_flows a.count a.rows.now)) a.port (headers_in a.h) c.hit_in-hit.ensures
