-- A number of so many bytes at most is below what they hold.
-- Assumes nothing.
use Prim.Native.Nat.{ℕ, ◌≤◌, ◌<◌, ◌^◌}
use native.Mathlib.Omega.{arith}
use native.Mathlib.Nat.{pow-le-pow_right}

pub below_word : (n w : ℕ) → n < 256 ^ w → w ≤ 4 → n < 2 ^ 32
below_word n w b l = let p : 256 ^ w ≤ 256 ^ 4 = pow-le-pow_right (omega arith) l in omega arith

pub below_half : (n w : ℕ) → n < 256 ^ w → w ≤ 2 → n < 2 ^ 16
below_half n w b l = let p : 256 ^ w ≤ 256 ^ 2 = pow-le-pow_right (omega arith) l in omega arith
