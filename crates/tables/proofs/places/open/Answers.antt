-- The places from `at` on are shifted up, from behind, through the one free place behind the last (`Shifted`); then the entry goes into the
-- place that is free.
-- Assumes nothing.
use Prim.Native.Nat.{◌+◌, ◌-◌}
use mathlib.Core.Path.{◌≡◌, refl, ◌∙◌}
use native.Mathlib.Omega.{arith}
use lib.ListN.{length-set}
use Rattle.tables.proofs.Slots.{unshifted, shift_down, opened}
use Rattle.tables.proofs.places.open.Goals as goal

pub loop-place-init : goal.loop-place-init
loop-place-init g c = unshifted refl (omega arith) (omega arith) (omega arith)

pub loop-place-preserved : goal.loop-place-preserved
loop-place-preserved g c =
    let l = c.loop-place in
    let x = c.index-places-place in
    let free : l.place - 1 + 1 ≡ l.place = omega (arith, c.loop-place-test.true) in
    rw (free, x.is) (shift_down x.result l.invariant c.loop-place-test.true)

pub returns : goal.returns
returns g c =
    let l = c.loop-place in
    let here : l.place ≡ c.args.at = omega (arith, l.invariant.low, c.loop-place-test.false) in
    (rw here at (opened c.args.entry l.invariant c.loop-place-test.false), length-set _ _ _ ∙ l.invariant.size)
