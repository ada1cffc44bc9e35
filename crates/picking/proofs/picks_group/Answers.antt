-- As picks_flow, over two arrays.
-- Assumes nothing.
use native.Mathlib.Omega.{arith}
use mathlib.Core.Path.{refl, sym, ◌∙◌}
use mathlib.Core.List.{[]}
use Rattle.rules.specs.Rows.{id_in, group_in}
use Rattle.rules.specs.Tables.{id_of}
use Rattle.rules.specs.Undo.{same_group}
use Rattle.tables.proofs.Search.{held_sought, held_lt}
use Rattle.picking.proofs.Found.{held_gone, picks_other, picks_absent}
use Rattle.picking.proofs.Live.{sought_group, no_group, group_at}
use Rattle.picking.proofs.picks_group.Goals as goal

pub returns-in-Ok : goal.returns-in-Ok
returns-in-Ok c =
    let a = c.args in
    let s = sought_group a.count a.heads.now a.members.now c.told-heads c.told-members (held_sought id_in 128 a.e.id a.count a.heads.now c.told-heads c.in-Ok.at c.in-Ok.ensures.place) in
    picks_other id_of same_group a.there a.e (group_in ([], [])) s
    (group_at a.count c.in-Ok.at a.heads.now a.members.now c.told-heads c.told-members (omega (arith, held_lt s refl, s.live)))
    c.group_of.ensures c.same_group.ensures

pub returns-in-Err : goal.returns-in-Err
returns-in-Err c =
    let a = c.args in
    picks_absent id_of same_group a.there a.e _ (no_group a.count a.e.id a.heads.now a.members.now (c.told-heads ∙ sym c.told-members) (held_gone id_in a.e.id _ c.in-Err.field-0 c.in-Err.ensures.place))
