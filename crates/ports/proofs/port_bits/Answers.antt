use mathlib.Core.Path.{◌≡◌}
use Prim.Native.Nat.{◌+◌, ◌*◌, ◌%◌, ◌^◌, min}
use lib.Pow.{pow_pos}
use native.Mathlib.Nat.{mod-le, mod-eq_of_lt}
use Rattle.rules.specs.Registers.{port_bits}
use Rattle.ports.proofs.Bitmaps.{one_shifted}
use native.Mathlib.Omega.{arith}
use Rattle.ports.proofs.port_bits.Goals as goal

pub nonzero_rem-result : goal.nonzero_rem-result
nonzero_rem-result c =
    let p = c.args.ports + 1 in
    rw (one_shifted p (omega arith)) (pow_pos p)

pub overflow_mul-result : goal.overflow_mul-result
overflow_mul-result c =
    let a = c.args in
    omega (arith, mod-le a.v (1 * 2 ^ (a.ports + 1) % 2 ^ 64))

pub returns-then-ports-lt63 : goal.returns-then-ports-lt63
unfolding port_bits
returns-then-ports-lt63 c =
    let a = c.args in
    let m : min a.ports 63 ≡ a.ports = omega arith in
    rw (one_shifted (a.ports + 1) (omega arith), m)

pub returns : goal.returns
unfolding port_bits
returns c =
    let a = c.args in
    let m : min a.ports 63 + 1 ≡ 64 = omega arith in
    let e : a.v % 2 ^ 64 ≡ a.v = mod-eq_of_lt c.ranges.v.fits in
    rw (m, e)
