-- Where the cookie is held, look-up gives the flow of that row (Found, Live); else none.
-- Assumes nothing.
use native.Mathlib.Omega.{arith}
use mathlib.Core.Path.{refl}
use mathlib.Core.List.{[]}
use Rattle.rules.specs.Rows.{cookie_in, entry_in}
use Rattle.rules.specs.Tables.{cookie_of}
use Rattle.rules.specs.Undo.{same_flow}
use Rattle.tables.proofs.Search.{held_sought, held_lt}
use Rattle.picking.proofs.Found.{held_gone, picks_other, picks_absent}
use Rattle.picking.proofs.Live.{sought_flow, no_flow, flow_at}
use Rattle.picking.proofs.picks_flow.Goals as goal

pub returns-in-Ok : goal.returns-in-Ok
returns-in-Ok c =
    let a = c.args in
    let s = sought_flow a.count a.other.now (held_sought cookie_in 256 a.e.cookie a.count a.other.now c.told-other c.in-Ok.at c.in-Ok.ensures.place) in
    picks_other cookie_of same_flow a.there a.e (entry_in []) s
    (flow_at a.count c.in-Ok.at a.other.now (omega (arith, held_lt s refl, s.live)))
    c.entry_of.ensures c.same_flow.ensures

pub returns-in-Err : goal.returns-in-Err
returns-in-Err c =
    let a = c.args in
    picks_absent cookie_of same_flow a.there a.e _ (no_flow a.count a.e.cookie a.other.now (held_gone cookie_in a.e.cookie _ c.in-Err.field-0 c.in-Err.ensures.place))
