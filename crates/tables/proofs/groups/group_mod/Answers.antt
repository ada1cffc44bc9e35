-- As flow_mod, on two arrays: what is found among the heads is found among the pairs.
-- Assumes nothing.
use mathlib.Core.Path.{refl, sym, ◌∙◌}
use Rattle.std.proofs.lemmas.Result.{err_from_is_err_and}
use Rattle.rules.specs.Rows.{group_in, beside}
use Rattle.rules.specs.Tables.{id_of}
use Rattle.rules.proofs.Mapped.{row_key}
use Rattle.rules.proofs.Rows.{length_beside}
use Rattle.tables.specs.Groups.{groups_in}
use Rattle.tables.proofs.Search.{held_sought}
use Rattle.tables.proofs.Beside.{held_beside, stored_group}
use Rattle.tables.proofs.InPlace.{modded, absent}
use Rattle.tables.proofs.groups.group_mod.Goals as goal

pub returns-in_err-at-clause-outcome : goal.returns-in_err-at-clause-outcome
unfolding groups_in
returns-in_err-at-clause-outcome c =
    let a = c.args in
    let p = err_from_is_err_and c.from_residual.result c.from_residual.ensures.1 in
    let hs = a.heads.now in
    let ms = a.members.now in
    let even = c.told-heads ∙ sym c.told-members in
    rw (p.1, p.2)
    (absent groups_in group_in id_of 128 _ a.count (beside hs ms) refl a.g.id c.in_err-at.field-0.0
    ((rw c.from.ensures at c.in_err-at.ensures.place) ∙ held_beside a.count a.g.id hs ms even))

pub returns-clause-outcome : goal.returns-clause-outcome
unfolding groups_in
returns-clause-outcome c =
    let a = c.args in
    let hs = a.heads.now in
    let ms = a.members.now in
    let even = c.told-heads ∙ sym c.told-members in
    let s = held_sought (row_key group_in id_of) 128 a.g.id a.count (beside hs ms) (length_beside hs ms even ∙ c.told-heads) c.in_ok-at.at ((rw c.from.ensures at c.in_ok-at.ensures.place) ∙ held_beside a.count a.g.id hs ms even) in
    modded groups_in group_in id_of 128 _ a.count (beside hs ms) refl (c.head_of.result, a.g.members) c.head_of.ensures s
    (stored_group a.count c.in_ok-at.at hs ms _ _) refl
