use Prim.Native.Nat.{◌-◌}
use mathlib.Core.Path.{◌≡◌, sym}
use native.Mathlib.Nat.{div-eq_of_lt}
use native.Mathlib.Omega.{arith}
use Rattle.addresses.proofs.first_bits.Goals as goal

pub returns-then-n-eq0 : goal.returns-then-n-eq0
returns-then-n-eq0 c =
    let a = c.args in
    let e : 64 - a.n ≡ 64 = omega (arith, c.if-n-eq0.true) in rw e (sym (div-eq_of_lt (omega arith)))
