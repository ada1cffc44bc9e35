-- The places behind `at` are shifted down (`Shifted`), and the last one is free then.
-- Assumes nothing.
use mathlib.Core.Path.{refl}
use native.Mathlib.Omega.{arith}
use Rattle.tables.proofs.Slots.{unshifted, shift_up, closed}
use Rattle.tables.proofs.places.close.Goals as goal

pub loop-place-init : goal.loop-place-init
loop-place-init g c = unshifted refl (omega arith) (omega arith) (omega arith)

pub loop-place-preserved : goal.loop-place-preserved
loop-place-preserved g c = rw c.index-places-place.is (shift_up c.index-places-place.result c.loop-place.invariant c.loop-place-test.true)

pub returns : goal.returns
returns g c = (closed c.args.live c.loop-place.invariant c.loop-place-test.false (omega arith), c.loop-place.invariant.size)
