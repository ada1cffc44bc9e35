-- Each way out is a law of InPlace.
-- Assumes nothing.
use mathlib.Core.Path.{refl}
use Rattle.std.proofs.lemmas.Result.{err_from_is_err_and}
use Rattle.rules.specs.Places.{live}
use Rattle.rules.specs.Rows.{cookie_in, entry_in}
use Rattle.rules.specs.Tables.{cookie_of}
use Rattle.tables.proofs.Search.{held_sought}
use Rattle.tables.proofs.InPlace.{deleted, absent}
use Rattle.tables.proofs.flows.flow_del.Goals as goal

pub returns-in_err-at-clause-outcome : goal.returns-in_err-at-clause-outcome
unfolding entry_in
returns-in_err-at-clause-outcome c =
    let a = c.args in
    let p = err_from_is_err_and c.from_residual.result c.from_residual.ensures.1 in
    rw (p.1, p.2) (absent (live entry_in) entry_in cookie_of 256 _ a.count a.rows.now refl a.cookie c.in_err-at.field-0.0 c.in_err-at.ensures.place)

pub returns-clause-outcome : goal.returns-clause-outcome
unfolding entry_in
returns-clause-outcome c =
    let a = c.args in
    let s = held_sought cookie_in 256 a.cookie a.count a.rows.now c.told-rows c.in_ok-at.at c.in_ok-at.ensures.place in
    rw c.min-live.ensures (deleted (live entry_in) entry_in cookie_of 256 _ a.count a.rows.now refl s c.close.new.places refl refl (rw c.min-live.ensures at c.close.ensures.0))
