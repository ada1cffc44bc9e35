-- Table by table: each hit either ends the way, and then so does the rules' way, or hands it on to the next table.
-- Assumes nothing.
use mathlib.Core.Path.{sym, ◌∙◌}
use Rattle.deciding.specs.Way.{headers_in, decider}
use Rattle.deciding.proofs.Tables.{in_0, in_10, after_0, after_10, with_vlan_lem, nowhere}
use Rattle.deciding.proofs.way.Goals as goal

pub flow-a-requires : goal.flow-a-requires
flow-a-requires c = c.hit_in-first.ensures.inside

pub returns-then-first-a : goal.returns-then-first-a
returns-then-first-a c =
    let a = c.args in
    let d = decider a.count a.rows.now a.order.now a.firsts in
    let hit = in_0 a.count a.rows.now a.order.now a.firsts _ c.hit_in-first.ensures in
    nowhere _ c.dropped.ensures ∙ sym ((after_0 d a.port (headers_in a.h) c.flow-a.ensures hit).ends c.if-first-a.true)

pub flow-b-requires : goal.flow-b-requires
flow-b-requires c = c.hit_in-second.ensures.inside

pub returns-then-second-b : goal.returns-then-second-b
returns-then-second-b c =
    let a = c.args in
    let d = decider a.count a.rows.now a.order.now a.firsts in
    let hit = in_0 a.count a.rows.now a.order.now a.firsts _ c.hit_in-first.ensures in
    let hit2 = in_10 a.count a.rows.now a.order.now a.firsts _ c.hit_in-second.ensures in
    let on = (after_0 d a.port (headers_in a.h) c.flow-a.ensures hit).goes c.if-first-a.false in
    nowhere _ c.dropped-then-second-b.ensures ∙ sym (on ∙ (after_10 d a.port (headers_in a.h) c.flow-b.ensures hit2).ends c.if-second-b.true)

pub returns : goal.returns
unfolding headers_in
returns c =
    let a = c.args in
    let d = decider a.count a.rows.now a.order.now a.firsts in
    let hit = in_0 a.count a.rows.now a.order.now a.firsts _ c.hit_in-first.ensures in
    let hit2 = in_10 a.count a.rows.now a.order.now a.firsts _ c.hit_in-second.ensures in
    let on = (after_0 d a.port (headers_in a.h) c.flow-a.ensures hit).goes c.if-first-a.false in
    let far = rw (← c.vlan_after.ensures) at ((after_10 d a.port (headers_in a.h) c.flow-b.ensures hit2).goes c.if-second-b.false) in
    let out = rw (c.with_vlan-tagged.ensures.0, c.with_vlan-tagged.ensures.1) at c.from_20.ensures in
    out ∙ (with_vlan_lem d a.port c.vlan_after.result (headers_in a.h) ∙ sym (on ∙ far))
