use Prim.Native.Nat.{◌<◌}
use native.Mathlib.Omega.{arith}
use Rattle.hexadecimal.proofs.Digits.{digit_some, high_none, low_none, both_some}
use Rattle.hexadecimal.proofs.pair.Goals as goal
use Rattle.hexadecimal.proofs.pair.Goals.{In_ok-digit, In_ok-digit-2}

pub returns-in_err-digit : goal.returns-in_err-digit
returns-in_err-digit c = rw c.from_residual.ensures (high_none c.args.high c.args.low c.in_err-digit.ensures)

high : (c : In_ok-digit) → c.in_ok-digit.field-0 < 16
high c = let d = digit_some c.args.high _ c.in_ok-digit.ensures in omega (arith, d.0, d.1)

low : (c : In_ok-digit-2) → c.in_ok-digit-2.field-0 < 16
low c = let d = digit_some c.args.low _ c.in_ok-digit-2.ensures in omega (arith, d.0, d.1)

pub overflow_mul-result : goal.overflow_mul-result
overflow_mul-result c = omega (arith, high (goal.at.overflow_mul-result c).In_ok-digit)

pub returns-in_err-digit-2 : goal.returns-in_err-digit-2
returns-in_err-digit-2 c = rw c.from_residual-in_err-digit-2.ensures (low_none c.args.high c.args.low _ c.in_ok-digit.ensures c.in_err-digit-2.ensures)

pub overflow_add-result : goal.overflow_add-result
overflow_add-result c = omega (arith, high (goal.at.overflow_add-result c).In_ok-digit, low (goal.at.overflow_add-result c).In_ok-digit-2)

pub overflow_cast-result : goal.overflow_cast-result
overflow_cast-result c = omega (arith, high (goal.at.overflow_cast-result c).In_ok-digit, low (goal.at.overflow_cast-result c).In_ok-digit-2)

pub returns : goal.returns
returns c = both_some c.args.high c.args.low _ _ c.in_ok-digit.ensures c.in_ok-digit-2.ensures
