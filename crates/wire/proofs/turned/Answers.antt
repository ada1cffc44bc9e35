use Rattle.wire.proofs.Numbers.{turning_goes_on, turning_grows, turning_fits, turning_ends}
use Rattle.std.proofs.Common.{◌≡◌, ◌-◌, arith}
use Rattle.wire.proofs.turned.Goals as goal

pub loop-done-init : goal.loop-done-init
loop-done-init c =
    let n = c.args.n in
    let all : n - 0 ≡ n = omega arith in
    record { fits = omega arith; whole = rw all (omega arith) }

pub overflow_mul-turned : goal.overflow_mul-turned
overflow_mul-turned c =
    let l = c.loop-done in
    record { fits = omega (arith, turning_fits _ l._done _ c.requires c.loop-done-test.true l.invariant.fits) }

pub overflow_add-turned : goal.overflow_add-turned
overflow_add-turned c =
    let l = c.loop-done in
    record { fits = omega (arith, turning_fits _ l._done _ c.requires c.loop-done-test.true l.invariant.fits) }

pub loop-done-preserved : goal.loop-done-preserved
loop-done-preserved c =
    let l = c.loop-done in
    record {
      fits = turning_grows _ _ _ l.invariant.fits;
      whole = turning_goes_on _ _ _ _ _ (omega arith) (omega arith) l.invariant.whole;
    }

pub returns : goal.returns
returns c = turning_ends _ _ _ _ (omega arith) c.loop-done.invariant.whole
