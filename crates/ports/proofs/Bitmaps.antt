-- Bits of a port bitmap, and how large an allowed port is.
-- Assumes nothing.
use Prim.Native.Nat.{ℕ, ◌+◌, ◌-◌, ◌*◌, ◌/◌, ◌%◌, ◌≤◌, ◌<◌, ◌^◌}
use mathlib.Core.Path.{◌≡◌, ◌∙◌}
use mathlib.Core.Bool.{true, false, ◌&&◌}
use native.Mathlib.Omega.{arith}
use native.Mathlib.Nat.{div-eq_of_lt, one-mul, mod-lt, mul-le-mul_right, add-mul}
use lib.Dec.{eqb, leb, lit<}
use lib.Bits.{bit_and, and_mask}
use lib.Pow.{pow_pos, pow_mono, pow-add, shl_exact, shr_lt, mod-pow-add, split}
use borrow.Author.Tests.{eqb-true, eqb-false, leb-true}
use Rattle.rules.specs.Bytes.{bit}
use Rattle.rules.specs.Limits.{max_ports}
use Rattle.rules.specs.Registers.{port_count_allowed, port_allowed}
use Rattle.rules.specs.declared.Registers.{Registers}
use Rattle.rules.proofs.Cases.{by_le, and_left, and_right}

-- a bit by shift and mask
pub bit_masked : (p v : ℕ) → eqb (bit_and (v / 2 ^ p) 1) 1 ≡ bit p v
unfolding bit
bit_masked p v = rw (and_mask (v / 2 ^ p) 1)

pub bit_beyond : (p v : ℕ) → 64 ≤ p → v < 2 ^ 64 → false ≡ bit p v
unfolding bit
bit_beyond p v h k =
    let w : v < 2 ^ p = omega (arith, pow_mono h) in
    rw (div-eq_of_lt w)

-- 1 << p
pub one_shifted : (p : ℕ) → p < 64 → 1 * 2 ^ p % 2 ^ 64 ≡ 2 ^ p
one_shifted p h = shl_exact 1 p 64 (lit< tt) (omega arith) ∙ one-mul (2 ^ p)

-- a bit that is set can be taken off
pub set_below : (p v : ℕ) → bit p v ≡ true → 2 ^ p ≤ v
unfolding bit
set_below p v e =
    by_le (2 ^ p) v
    (λ h p'. h)
    (λ h p'. let q : v / 2 ^ p ≡ 0 = div-eq_of_lt h in omega (arith, eqb-true (v / 2 ^ p % 2) 1 e))

-- one that is not can be added
pub clear_room : (p v : ℕ) → p < 64 → v < 2 ^ 64 → bit p v ≡ false → v + 2 ^ p < 2 ^ 64
unfolding bit
clear_room p v h k e =
    let j = 63 - p in
    let q : v / 2 ^ p % 2 ≡ 0 = omega (arith, eqb-false (v / 2 ^ p % 2) 1 e) in
    let two : 2 ^ (1 + p) ≡ 2 * 2 ^ p = pow-add 2 1 p in
    let low : v % 2 ^ (1 + p) ≡ v % 2 ^ p = mod-pow-add v 1 p ∙ rw q (omega arith) in
    let small : v % 2 ^ p < 2 ^ p = mod-lt v (pow_pos p) in
    let all : 2 ^ (j + (1 + p)) ≡ 2 ^ j * 2 ^ (1 + p) = pow-add 2 j (1 + p) in
    let e64 : j + (1 + p) ≡ 64 = omega arith in
    let high : v / 2 ^ (1 + p) < 2 ^ j = shr_lt j (1 + p) (rw e64 k) in
    let m : (v / 2 ^ (1 + p) + 1) * 2 ^ (1 + p) ≤ 2 ^ j * 2 ^ (1 + p) = mul-le-mul_right (2 ^ (1 + p)) (omega arith) in
    let s : v / 2 ^ (1 + p) * 2 ^ (1 + p) + v % 2 ^ (1 + p) ≡ v = split v (1 + p) in
    let d : (v / 2 ^ (1 + p) + 1) * 2 ^ (1 + p) ≡ v / 2 ^ (1 + p) * 2 ^ (1 + p) + 1 * 2 ^ (1 + p) = add-mul (v / 2 ^ (1 + p)) 1 (2 ^ (1 + p)) in
    let a : 2 ^ 64 ≡ 2 ^ j * 2 ^ (1 + p) = rw e64 at all in
    omega arith

-- ---- Ports

pub count_small : (ports : ℕ) → port_count_allowed ports ≡ true → ports ≤ max_ports
unfolding port_count_allowed
count_small ports e = leb-true ports max_ports (and_right (leb 1 ports) _ e)

pub port_small : (d : Registers) (port : ℕ) → port_allowed d port ≡ true → port ≤ max_ports
unfolding port_allowed
port_small d port e =
    let l : port_count_allowed d.ports && leb 1 port ≡ true = and_left _ (leb port d.ports) e in
    omega (arith, leb-true port d.ports (and_right (port_count_allowed d.ports && leb 1 port) _ e), count_small d.ports (and_left _ (leb 1 port) l))
