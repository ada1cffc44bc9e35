use mathlib.Core.Path.{◌≡◌}
use Rattle.rules.specs.Tables.{live_flows, live_groups}
use Rattle.rules.specs.Frame.{keep, way}
use Rattle.rules.specs.Engine.{decides_first}
use Rattle.rules.specs.Switch.{order_in}
use Rattle.deciding.specs.Way.{exit_in}
use Rattle.outputs.proofs.Writing.{lists_none, room}
use Rattle.egress.proofs.Outcomes.{out_found, out_none}
use borrow.Author.Rules.{rules}
use Rattle.egress.proofs.outputs_from.Goals as goal

pub returns-then-w : goal.returns-then-w
unfolding way
returns-then-w c =
    let a = c.args in
    let decides = decides_first (live_flows a.counts.flows a.flows.now) (order_in a.counts.flows a.firsts a.order.now) in
    let groups = live_groups a.counts.groups a.heads.now a.members.now in
    let e : exit_in c.way-w.result ≡ way decides a.port a.f.now = rw (← c.headers_of.ensures) c.way-w.ensures in
    rw
    (out_found groups c.way-w.result (way decides a.port a.f.now) e c.if-w.true)
    (rw (room _ a.list.now (search rules)) at c.group_outputs.ensures)

pub returns : goal.returns
unfolding way keep
returns c =
    let a = c.args in
    let decides = decides_first (live_flows a.counts.flows a.flows.now) (order_in a.counts.flows a.firsts a.order.now) in
    let groups = live_groups a.counts.groups a.heads.now a.members.now in
    let e : exit_in c.way-w.result ≡ way decides a.port a.f.now = rw (← c.headers_of.ensures) c.way-w.ensures in
    rw (out_none groups c.way-w.result (way decides a.port a.f.now) e c.if-w.false) (lists_none a.list.now)
