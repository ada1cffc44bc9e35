-- Table by table: each hit either ends the way, and then so does the rules' way, or hands it on to the next table.
-- Assumes nothing.
use mathlib.Core.Path.{sym, ◌∙◌}
use Rattle.rules.specs.Tables.{live_flows}
use Rattle.rules.specs.Engine.{decides_best}
use Rattle.deciding.specs.Way.{headers_in}
use Rattle.deciding.proofs.Tables.{after_0, after_10, with_vlan_lem, nowhere}
use Rattle.plain.proofs.scan.way.Goals as goal

pub returns-then-first-a : goal.returns-then-first-a
returns-then-first-a c =
    let a = c.args in
    let d = decides_best (live_flows a.count a.rows.now) in
    nowhere _ c.dropped.ensures ∙ sym ((after_0 d a.port (headers_in a.h) c.flow-a.ensures c.first_hits-found.ensures.0).ends c.if-first-a.true)

pub returns-then-second-b : goal.returns-then-second-b
returns-then-second-b c =
    let a = c.args in
    let d = decides_best (live_flows a.count a.rows.now) in
    let on = (after_0 d a.port (headers_in a.h) c.flow-a.ensures c.first_hits-found.ensures.0).goes c.if-first-a.false in
    nowhere _ c.dropped-then-second-b.ensures ∙ sym (on ∙ (after_10 d a.port (headers_in a.h) c.flow-b.ensures c.first_hits-found.ensures.1).ends c.if-second-b.true)

pub from_20-requires : goal.from_20-requires
from_20-requires c = c.first_hits-found.ensures.2

pub returns : goal.returns
unfolding headers_in
returns c =
    let a = c.args in
    let d = decides_best (live_flows a.count a.rows.now) in
    let on = (after_0 d a.port (headers_in a.h) c.flow-a.ensures c.first_hits-found.ensures.0).goes c.if-first-a.false in
    let far = rw (← c.vlan_after.ensures) at ((after_10 d a.port (headers_in a.h) c.flow-b.ensures c.first_hits-found.ensures.1).goes c.if-second-b.false) in
    let out = rw (c.with_vlan-tagged.ensures.0, c.with_vlan-tagged.ensures.1) at c.from_20.ensures in
    out ∙ (with_vlan_lem d a.port c.vlan_after.result (headers_in a.h) ∙ sym (on ∙ far))
