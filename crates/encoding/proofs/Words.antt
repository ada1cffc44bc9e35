-- Numbers of two words: the bytes of a big-endian one, the upper half of an address of 32 bits, and masks of ones.
-- Assumes nothing.
use Prim.Native.Nat.{ℕ, zero, suc, ◌+◌, ◌-◌, ◌*◌, ◌/◌, ◌%◌, ◌^◌, ◌<◌, ◌≤◌}
use mathlib.Core.Path.{◌≡◌, ap, sym, ◌∙◌}
use mathlib.Core.List.{◌++◌}
use native.Mathlib.Nat.{pow-succ', one-le-pow, mul_assoc}
use native.Mathlib.Omega.{arith}
use lib.Dec.{lit<}
use lib.Pow.{ones_split, ones_lt, shr-shr, high}
use Rattle.rules.specs.Bytes.{bytes_of, swapped}
use Rattle.rules.specs.Address.{prefix_mask, address_in}
use Rattle.rules.proofs.Address.{swapped_below, swapped_split, mask_below}
use Rattle.addresses.proofs.Lengths.{mask_split}

-- ---- Bytes

-- a number of two parts has the bytes of each
bytes_split : (n m x y : ℕ) → x < 256 ^ n → bytes_of (n + m) (x + 256 ^ n * y) ≡ bytes_of n x ++ bytes_of m y
unfolding bytes_of
bytes_split zero m x y h =
    let e : x + 1 * y ≡ y = omega arith in
    let f : 0 + m ≡ m = omega arith in
    rw (e, f)
bytes_split (suc n) m x y h =
    let b : x < 256 * 256 ^ n = rw pow-succ' at h in
    let z : 256 ^ suc n * y ≡ 256 * (256 ^ n * y) = rw (pow-succ', mul_assoc) in
    let c : x / 256 < 256 ^ n = omega arith in
    let d : (x + 256 * (256 ^ n * y)) / 256 ≡ x / 256 + 256 ^ n * y = omega arith in
    let e : (x + 256 * (256 ^ n * y)) % 256 ≡ x % 256 = omega arith in
    let f : suc n + m ≡ suc (n + m) = omega arith in
    rw (f, z) (rw (d, e, bytes_split n m (x / 256) y c))

-- big-endian: the upper word comes first
pub wide_bytes : (h l : ℕ) → l < 2 ^ 64 → bytes_of 16 (swapped 16 (h * 2 ^ 64 + l)) ≡ bytes_of 8 (swapped 8 h) ++ bytes_of 8 (swapped 8 l)
wide_bytes h l fits =
    let e : h * 2 ^ 64 + l ≡ l + 256 ^ 8 * h = omega arith in
    let s : swapped 16 (l + 256 ^ 8 * h) ≡ swapped 8 l * 256 ^ 8 + swapped 8 h = swapped_split 8 8 l h fits in
    let f : swapped 8 l * 256 ^ 8 + swapped 8 h ≡ swapped 8 h + 256 ^ 8 * swapped 8 l = omega arith in
    ap (λ (v : ℕ). bytes_of 16 (swapped 16 v)) e ∙ (ap (bytes_of 16) (s ∙ f) ∙ bytes_split 8 8 (swapped 8 h) (swapped 8 l) (swapped_below 8 h))

-- ---- Addresses

-- one of 32 bits is the upper half of the upper word, one of 128 is both words
pub upper_half : (h l : ℕ) → l < 2 ^ 64 → address_in 32 h l ≡ h / 2 ^ 32
unfolding address_in
upper_half h l fits = sym (shr-shr (h * 2 ^ 64 + l) 64 32) ∙ ap (λ (x : ℕ). x / 2 ^ 32) (high h 64 fits)

pub both_words : (h l : ℕ) → address_in 128 h l ≡ h * 2 ^ 64 + l
unfolding address_in
both_words h l = omega arith

-- ---- Masks

-- all ones without those that are moved down
pub ones_left : (n : ℕ) → n ≤ 64 → (2 ^ 64 - 1) - (2 ^ 64 - 1) / 2 ^ n ≡ prefix_mask 64 n
unfolding prefix_mask
ones_left n h =
    let k = 64 - n in
    let e : k + n ≡ 64 = omega arith in
    let s : 2 ^ (k + n) - 1 ≡ (2 ^ k - 1) * 2 ^ n + (2 ^ n - 1) = ones_split k n in
    let d : (2 ^ 64 - 1) / 2 ^ n ≡ 2 ^ k - 1 = ap (λ (x : ℕ). x / 2 ^ n) (rw e at s) ∙ high (2 ^ k - 1) n (ones_lt n) in
    rw d (omega (arith, one-le-pow k 2 (lit< tt)))

pub all_ones : (n : ℕ) → 64 ≤ n → 2 ^ 64 - 1 ≡ prefix_mask 64 n
unfolding prefix_mask
all_ones n h = let e : 64 - n ≡ 0 = omega arith in rw e

pub no_ones : (n : ℕ) → n ≤ 64 → 0 ≡ prefix_mask 64 (n - 64)
unfolding prefix_mask
no_ones n h = let e : n - 64 ≡ 0 = omega arith in rw e

-- a mask of 32 bits is the upper half of one of 64
pub upper_mask : (n : ℕ) → prefix_mask 64 n / 2 ^ 32 ≡ prefix_mask 32 n
upper_mask n = ap (λ (x : ℕ). x / 2 ^ 32) (mask_split 32 32 n) ∙ high (prefix_mask 32 n) 32 (mask_below 32 (n - 32))
