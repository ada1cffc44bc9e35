-- From the last byte to the first: v is the number of the bytes from k on, and below 2^56 while a byte is left.
-- Assumes nothing.
use Rattle.wire.proofs.Numbers.{reading_starts, reading_goes_on, reading_fits, reading_ends}
use Prim.Native.Nat.{◌<◌, ◌-◌, ◌^◌, min}
use borrow.Author.Rules.{rules}
use native.Mathlib.Omega.{arith}
use Rattle.wire.proofs.front.Goals as goal
use Rattle.wire.proofs.front.Goals.{In-loop-k}

pub loop-k-init : goal.loop-k-init
loop-k-init c =
    let a = c.args in
    (search rules, search rules, reading_starts (min a.n 8) a.s.now _ (search rules))

-- there is room for one byte more
small : (c : In-loop-k) → c.loop-k.v < 2 ^ 56
small c =
    let k = c.shared_slice_known-1.given in
    reading_fits _ _ _ _ (λ j. (k j).fits) c.loop-k.invariant.2 (search rules) c.loop-k-test.true

pub overflow_mul-v : goal.overflow_mul-v
overflow_mul-v c = omega (arith, small (goal.at.overflow_mul-v c).In-loop-k)

pub overflow_add-v : goal.overflow_add-v
overflow_add-v c = omega (arith, small (goal.at.overflow_add-v c).In-loop-k, c.shared_slice_known-in-loop-k-1.given (c.loop-k.k - 1))

pub loop-k-preserved : goal.loop-k-preserved
loop-k-preserved c =
    let l = c.loop-k in
    (search rules, search rules, reading_goes_on _ l.k _ l.v _ _ (search rules) (search rules) (search rules) c.wide.ensures l.invariant.2)

pub returns : goal.returns
returns c = reading_ends _ _ _ _ c.loop-k.invariant.2 c.loop-k-test.false
