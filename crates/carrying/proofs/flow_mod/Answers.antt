-- The table's part is a law of InPlace, the order's one of Following.
-- Assumes nothing.
use mathlib.Core.Path.{refl}
use Rattle.std.proofs.lemmas.Result.{err_from_is_err_and}
use Rattle.rules.specs.Places.{live}
use Rattle.rules.specs.Rows.{cookie_in, entry_in}
use Rattle.rules.specs.Tables.{cookie_of}
use Rattle.tables.proofs.Search.{held_sought}
use Rattle.tables.proofs.InPlace.{modded, absent, held_status_is}
use Rattle.carrying.proofs.Following as following
use Rattle.carrying.proofs.flow_mod.Goals as goal

pub returns-in_err-at-clause-outcome : goal.returns-in_err-at-clause-outcome
unfolding entry_in
returns-in_err-at-clause-outcome c =
    let a = c.args in
    let e = c.in_err-at.field-0.0 in
    let p = err_from_is_err_and c.from_residual.result c.from_residual.ensures.1 in
    rw (p.1, p.2) (
      absent (live entry_in) entry_in cookie_of 256 _ a.count a.rows.now refl c.args.e.cookie e c.in_err-at.ensures.place,
      following.refused e (held_status_is (live entry_in) entry_in cookie_of 256 _ a.count a.rows.now refl c.args.e.cookie e c.in_err-at.ensures.place),
    )

pub returns-clause-outcome : goal.returns-clause-outcome
unfolding entry_in live
returns-clause-outcome c =
    let a = c.args in
    let s = held_sought cookie_in 256 c.args.e.cookie a.count a.rows.now c.told-rows c.in_ok-at.at c.in_ok-at.ensures.place in
    let o = rw (c.live.ensures, ← s.live) at c.ranked-moved.ensures in (
      modded (live entry_in) entry_in cookie_of 256 _ a.count a.rows.now refl c.row_of.result c.row_of.ensures s refl refl,
      following.modded a.e (following.found c.told-order s) c.ranked-moved.array_long o,
    )
