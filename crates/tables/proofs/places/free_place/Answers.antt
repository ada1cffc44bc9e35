-- Each way out is a case of `free_of`, by what `place` found.
-- Assumes nothing.
use Prim.Native.Nat.{◌≤◌}
use mathlib.Core.Path.{refl}
use native.Mathlib.Omega.{arith}
use lib.ListN.{length, length-take}
use borrow.Author.Tests.{le-leb, lt-leb}
use Rattle.std.specs.Prelude.{Ok}
use Rattle.tables.specs.Commands.{free_of}
use Rattle.tables.proofs.Search.{free_within}
use Rattle.tables.proofs.places.free_place.Goals as goal

pub returns-in-Ok-clause-place : goal.returns-in-Ok-clause-place
unfolding free_of
returns-in-Ok-clause-place g c = rw (← c.live-live.ensures, ← c.place.ensures, c.in-Ok.is) refl

pub returns-in-Err-clause-place : goal.returns-in-Err-clause-place
unfolding free_of
returns-in-Err-clause-place g c = rw (← c.live-live.ensures, ← c.place.ensures, c.in-Err.is) (simp (le-leb (length c.args.places.now) (length c.live-live.result.now) (omega arith)))

pub returns-in-Err-2-clause-place : goal.returns-in-Err-2-clause-place
unfolding free_of
returns-in-Err-2-clause-place g c =
    let n : length c.live-live.result.now ≤ length c.args.places.now = rw c.live-live.ensures (omega (arith, length-take c.args.count c.args.places.now)) in
    rw (← c.live-live.ensures, ← c.place.ensures, c.in-Err.is) (simp (lt-leb (length c.args.places.now) (length c.live-live.result.now) (omega arith)))

pub returns-in-Err-2-clause-within : goal.returns-in-Err-2-clause-within
returns-in-Err-2-clause-within g c =
    let a = c.args in
    free_within g.P.Keyed.key (length a.places.now) a.key a.count a.places.now refl (Ok c.in-Err.field-0) (returns-in-Err-2-clause-place g c)
