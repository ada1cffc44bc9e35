-- The loop passes entries with a lower key (`Searching`), and stops at the first that is not lower, or at the end.
-- Assumes nothing.
use native.Mathlib.Omega.{arith}
use Rattle.tables.proofs.Search.{begin, pass, stop_at, stop_before, end}
use Rattle.tables.proofs.places.place.Goals as goal

pub loop-at-init : goal.loop-at-init
loop-at-init g c = begin g.P.Keyed.key

pub loop-at-preserved : goal.loop-at-preserved
loop-at-preserved g c =
    let x = c.index-live-at in
    pass g.P.Keyed.key c.loop-at.invariant x.result x.is c.loop-at-test.true (omega (arith, c.key-own.ensures))

pub returns-then-own-key : goal.returns-then-own-key
returns-then-own-key g c =
    let x = c.index-live-at in
    stop_at g.P.Keyed.key c.loop-at.invariant x.result x.is c.loop-at-test.true (omega (arith, c.key-own.ensures))

pub returns-else-own-key : goal.returns-else-own-key
returns-else-own-key g c =
    let x = c.index-live-at in
    stop_before g.P.Keyed.key c.loop-at.invariant x.result x.is c.loop-at-test.true (omega (arith, c.key-own.ensures)) (λ e. omega (arith, c.key-own.ensures))

pub returns : goal.returns
returns g c = end g.P.Keyed.key c.loop-at.invariant c.loop-at-test.false c.loop-at.auto.at-end
