use mathlib.Core.Path.{sym, ◌∙◌}
use Rattle.deciding.specs.Way.{exit_in}
use Rattle.deciding.proofs.Tables.{leaves, nowhere}
use Rattle.deciding.proofs.way_out.Goals as goal

pub returns-then-hit-e : goal.returns-then-hit-e
returns-then-hit-e c =
    let a = c.args in
    nowhere _ c.dropped.ensures ∙ sym ((leaves a.rows.now a.vlan a.hit.at a.hit.found c.flow-e.ensures).ends c.if-hit-e.true)

pub returns : goal.returns
unfolding exit_in
returns c =
    let a = c.args in
    sym ((leaves a.rows.now a.vlan a.hit.at a.hit.found c.flow-e.ensures).goes c.if-hit-e.false)
