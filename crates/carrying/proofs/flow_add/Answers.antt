-- The table's part is a law of InPlace, the order's one of Following.
-- Assumes nothing.
use mathlib.Core.Path.{refl}
use Rattle.std.proofs.lemmas.Result.{err_from_is_err_and}
use Rattle.rules.specs.Places.{live}
use Rattle.rules.specs.Rows.{cookie_in, entry_in}
use Rattle.rules.specs.Tables.{cookie_of}
use Rattle.tables.proofs.Search.{free_sought}
use Rattle.tables.proofs.InPlace.{added, not_free, free_status}
use Rattle.carrying.proofs.Following as following
use Rattle.carrying.proofs.flow_add.Goals as goal

pub returns-in_err-at-clause-outcome : goal.returns-in_err-at-clause-outcome
unfolding entry_in
returns-in_err-at-clause-outcome c =
    let a = c.args in
    let e = c.in_err-at.field-0.0 in
    let p = err_from_is_err_and c.from_residual.result c.from_residual.ensures.1 in
    rw (p.1, p.2) (
      not_free (live entry_in) entry_in cookie_of 256 _ a.count a.rows.now refl c.args.e.cookie e c.told-rows c.in_err-at.ensures.place,
      following.refused e (free_status (live entry_in) entry_in cookie_of 256 _ a.count a.rows.now refl c.args.e.cookie e c.told-rows c.in_err-at.ensures.place),
    )

pub returns-clause-outcome : goal.returns-clause-outcome
unfolding entry_in live
returns-clause-outcome c =
    let a = c.args in
    let s = free_sought cookie_in 256 c.args.e.cookie a.count a.rows.now c.told-rows c.in_ok-at.at c.in_ok-at.ensures.place in
    let o = rw (c.live.ensures, ← s.0.live) at c.put_in-more.ensures in
    rw c.min-live.ensures (
      added (live entry_in) entry_in cookie_of 256 _ a.count a.rows.now refl c.row_of.result c.row_of.ensures s.0 c.open.new.places refl refl s.1 (rw c.min-live.ensures at c.open.ensures.0),
      following.added a.e (following.found c.told-order s.0) s.1 o,
    )
