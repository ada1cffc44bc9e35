-- A prefix mask by its leading ones, and of two parts.
-- Assumes nothing.
use Prim.Native.Nat.{ℕ, suc, ◌+◌, ◌-◌, ◌*◌, ◌^◌, ◌<◌, ◌≤◌}
use mathlib.Core.Path.{◌≡◌, ap, sym, ◌∙◌}
use native.Mathlib.Nat.{sub-zero, pow-le-pow_right, one-le-pow, mul_comm, mul-sub, mul-le-mul_right}
use native.Mathlib.Omega.{arith}
use lib.Pow.{pow-add}
use lib.Dec.{lit<}
use Rattle.std.specs.Int.Count.{count_leading_zeros, leading_unique}
use Rattle.rules.specs.Address.{prefix_mask, prefix_length}
use Rattle.rules.proofs.Address.{length_of_mask, length_none}
use Rattle.rules.proofs.Cases.{by_le}

-- a number is the mask of its leading ones, or of no length
pub leading_ones_of_mask : (w p : ℕ) → p ≤ w → count_leading_zeros w (2 ^ w - 1 - prefix_mask w p) ≡ p
unfolding prefix_mask
leading_ones_of_mask w p h =
    let m = w - p in
    let low : 2 ^ m ≤ 2 ^ w = pow-le-pow_right (lit< tt) (omega arith) in
    let pos : 1 ≤ 2 ^ m = one-le-pow m 2 (lit< tt) in
    sym (leading_unique w _ p m (omega arith) (omega arith) (omega arith))

pub length_found : (w mask length : ℕ) → length ≤ w → mask ≡ 2 ^ w - 1 - (2 ^ (w - length) - 1) → length ≡ prefix_length w mask
unfolding prefix_mask
length_found w mask length h e =
    let m : mask ≡ prefix_mask w length = (let pos : 1 ≤ 2 ^ (w - length) = one-le-pow (w - length) 2 (lit< tt) in omega arith) in
    sym (ap (prefix_length w) m ∙ length_of_mask w length h)

pub no_length : (w mask length : ℕ) → length ≡ count_leading_zeros w (2 ^ w - 1 - mask) → (mask ≡ 2 ^ w - 1 - (2 ^ (w - length) - 1) → ⊥) → w + 1 ≡ prefix_length w mask
unfolding prefix_mask
no_length w mask length e d =
    let one_more : w + 1 ≡ suc w = omega arith in
    one_more ∙ sym (length_none w mask (λ q l m.
    let same : length ≡ q = e ∙ ap (λ (x : ℕ). count_leading_zeros w (2 ^ w - 1 - x)) m ∙ leading_ones_of_mask w q l in
    let pos : 1 ≤ 2 ^ (w - q) = one-le-pow (w - q) 2 (lit< tt) in
    d (rw same (omega arith))))

-- a prefix mask of two parts: the ones go on in the second where they fill the first
pub mask_split : (a b q : ℕ) → prefix_mask (a + b) q ≡ prefix_mask a q * 2 ^ b + prefix_mask b (q - a)
unfolding prefix_mask
mask_split a b q =
    by_le q a
    (λ l p.
    let e : a + b - q ≡ a - q + b = omega arith in
    let z : q - a ≡ 0 = omega arith in
    rw (e, z, sub-zero, pow-add, pow-add, mul_comm (2 ^ a - 2 ^ (a - q)) (2 ^ b), mul-sub, mul_comm (2 ^ b) (2 ^ a), mul_comm (2 ^ b) (2 ^ (a - q)))
    (omega arith))
    (λ l p.
    let e : a + b - q ≡ b - (q - a) = omega arith in
    let z : a - q ≡ 0 = omega arith in
    let m : 2 ^ (b - (q - a)) ≤ 2 ^ b = pow-le-pow_right (lit< tt) (omega arith) in
    let n : 2 ^ b ≤ 2 ^ a * 2 ^ b = (let o = mul-le-mul_right (2 ^ b) (one-le-pow a 2 (lit< tt)) in omega arith) in
    rw (e, z, pow-add, mul_comm (2 ^ a - 1) (2 ^ b), mul-sub, mul_comm (2 ^ b) (2 ^ a)) (omega arith))
