-- The table's part is a law of InPlace, the order's one of Following.
-- Assumes nothing.
use mathlib.Core.Path.{refl}
use Rattle.std.proofs.lemmas.Result.{err_from_is_err_and}
use Rattle.rules.specs.Places.{live}
use Rattle.rules.specs.Rows.{cookie_in, entry_in}
use Rattle.rules.specs.Tables.{cookie_of}
use Rattle.tables.proofs.Search.{held_sought}
use Rattle.tables.proofs.InPlace.{deleted, absent, held_status_is}
use Rattle.carrying.proofs.Following as following
use Rattle.carrying.proofs.flow_del.Goals as goal

pub returns-in_err-at-clause-outcome : goal.returns-in_err-at-clause-outcome
unfolding entry_in
returns-in_err-at-clause-outcome c =
    let a = c.args in
    let e = c.in_err-at.field-0.0 in
    let p = err_from_is_err_and c.from_residual.result c.from_residual.ensures.1 in
    rw (p.1, p.2) (
      absent (live entry_in) entry_in cookie_of 256 _ a.count a.rows.now refl c.args.cookie e c.in_err-at.ensures.place,
      following.refused e (held_status_is (live entry_in) entry_in cookie_of 256 _ a.count a.rows.now refl c.args.cookie e c.in_err-at.ensures.place),
    )

pub returns-clause-outcome : goal.returns-clause-outcome
unfolding entry_in live
returns-clause-outcome c =
    let a = c.args in
    let s = held_sought cookie_in 256 c.args.cookie a.count a.rows.now c.told-rows c.in_ok-at.at c.in_ok-at.ensures.place in
    let o = rw (c.live.ensures, ← s.live) at c.taken_out-less.ensures in
    rw c.min-live.ensures (
      deleted (live entry_in) entry_in cookie_of 256 _ a.count a.rows.now refl s c.close.new.places refl refl (rw c.min-live.ensures at c.close.ensures.0),
      following.deleted (following.found c.told-order s) o,
    )
