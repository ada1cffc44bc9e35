use Prim.Native.Nat.{min, ◌-◌, ◌≤◌}
use mathlib.Core.Path.{◌≡◌, sym, ◌∙◌}
use Rattle.rules.specs.Address.{address_bits}
use Rattle.rules.proofs.Address.{agree_words}
use Rattle.addresses.proofs.Words.{bits_at_most, in_upper, upper_differ, upper_same}
use native.Mathlib.Omega.{arith}
use Rattle.addresses.proofs.agree.Goals as goal

pub returns-then-n-le64 : goal.returns-then-n-le64
returns-then-n-le64 c =
    let a = c.args in
    let w = address_bits a.ethertype in
    let n : c.shorter-n.result ≡ min a.prefix w = c.shorter-n.ensures ∙ rw c.width_of.ensures in
    rw (
      agree_words w a.prefix (bits_at_most a.ethertype) a.high a.low a.other_high a.other_low (omega arith) (omega arith) (omega arith) (omega arith),
      ← n,
      in_upper a.high a.low (omega arith) c.shorter-n.result c.if-n-le64.true,
      in_upper a.other_high a.other_low (omega arith) c.shorter-n.result c.if-n-le64.true,
      c.first_bits.ensures,
      c.first_bits-then-n-le64.ensures,
    )

pub returns-then-high-other_high : goal.returns-then-high-other_high
returns-then-high-other_high c =
    let a = c.args in
    let w = address_bits a.ethertype in
    let n = c.shorter-n.result in
    let m : n ≡ min a.prefix w = c.shorter-n.ensures ∙ rw c.width_of.ensures in
    let few : n ≤ 128 = omega (arith, c.shorter-n.ensures, c.width_of.ensures, bits_at_most a.ethertype) in
    let e : 128 - n ≡ 64 - (n - 64) = omega arith in
    rw (agree_words w a.prefix (bits_at_most a.ethertype) a.high a.low a.other_high a.other_low (omega arith) (omega arith) (omega arith) (omega arith), ← m, e)
    (sym (upper_differ a.high a.low a.other_high a.other_low (n - 64) (omega arith) (omega arith) (omega arith) c.if-high-other_high.true))

pub first_bits-requires-2 : goal.first_bits-requires-2
first_bits-requires-2 c =
    omega (arith, c.shorter-n.ensures, c.width_of.ensures, bits_at_most c.args.ethertype)

pub first_bits-requires-3 : goal.first_bits-requires-3
first_bits-requires-3 c =
    omega (arith, c.shorter-n.ensures, c.width_of.ensures, bits_at_most c.args.ethertype)

pub returns : goal.returns
returns c =
    let a = c.args in
    let w = address_bits a.ethertype in
    let n = c.shorter-n.result in
    let m : n ≡ min a.prefix w = c.shorter-n.ensures ∙ rw c.width_of.ensures in
    let few : n ≤ 128 = omega (arith, c.shorter-n.ensures, c.width_of.ensures, bits_at_most a.ethertype) in
    let e : 128 - n ≡ 64 - (n - 64) = omega arith in
    rw (agree_words w a.prefix (bits_at_most a.ethertype) a.high a.low a.other_high a.other_low (omega arith) (omega arith) (omega arith) (omega arith), ← m, e)
    (rw (upper_same a.high a.low a.other_high a.other_low (n - 64) (omega arith) (omega arith) (omega arith) c.if-high-other_high.false, c.first_bits-2.ensures, c.first_bits-3.ensures))
