-- Prefixes over any width: comparing under a prefix mask is comparing first bits; a prefix mask has one length. And numbers of n bytes in
-- the other order.
-- Assumes nothing.
use Prim.Native.Nat.{ℕ, zero, suc, min, ◌+◌, ◌-◌, ◌*◌, ◌/◌, ◌%◌, ◌^◌, ◌<◌, ◌≤◌}
use mathlib.Core.Path.{◌≡◌, refl, ap, ◌∙◌}
use mathlib.Core.List.{List, [], ◌∷◌}
use native.Mathlib.Nat.{pow-succ', pow-le-pow_right, one-le-pow, mod-lt, mul_assoc, mul_comm, add-mul, add_assoc, min-eq_left, min-eq_right, eq_of_mul-eq-mul_right}
use native.Mathlib.Omega.{arith}
use lib.ListN.{drop}
use lib.Arith.{digits_lt}
use lib.Pow.{pow-add, pow-lt, shl-shr, shr-shr, shr_lt, shr_mod, split}
use lib.Bits.{bit_and, and_high}
use lib.Dec.{eqb, lit<}
use borrow.Author.Tests.{eq-eqb, ne_eqb, eqb-true}
use Rattle.rules.specs.Bytes.{le, swapped}
use Rattle.rules.specs.Address.{prefix_mask, agree, length_from, prefix_length, aligned_high, aligned_low, address_in}
use Rattle.rules.proofs.Cases.{by_test, by_eq, by_le}

-- ---- Bytes in the other order

pub swapped_below : (n v : ℕ) → swapped n v < 256 ^ n
unfolding swapped
swapped_below zero v = omega arith
swapped_below (suc n) v = rw pow-succ' (digits_lt (mod-lt v (lit< tt)) (swapped_below n (v / 256)))

-- two parts, each in the other order, change places
pub swapped_split : (n m x y : ℕ) → x < 256 ^ n → swapped (n + m) (x + 256 ^ n * y) ≡ swapped n x * 256 ^ m + swapped m y
unfolding swapped
swapped_split zero m x y h =
    let e : x + 1 * y ≡ y = omega arith in
    let f : 0 + m ≡ m = omega arith in
    rw (e, f) (omega arith)
swapped_split (suc n) m x y h =
    let b : x < 256 * 256 ^ n = rw pow-succ' at h in
    let z : 256 ^ suc n * y ≡ 256 * (256 ^ n * y) = rw (pow-succ', mul_assoc) in
    let c : x / 256 < 256 ^ n = omega arith in
    let r = swapped_split n m (x / 256) y c in
    let d : (x + 256 * (256 ^ n * y)) / 256 ≡ x / 256 + 256 ^ n * y = omega arith in
    let e : (x + 256 * (256 ^ n * y)) % 256 ≡ x % 256 = omega arith in
    let f : suc n + m ≡ suc (n + m) = omega arith in
    rw (f, z) (rw (d, e, r, pow-add, add-mul, mul_assoc, add_assoc) refl)

pub swapped_twice : (n v : ℕ) → v < 256 ^ n → swapped n (swapped n v) ≡ v
unfolding swapped
swapped_twice zero v h = omega arith
swapped_twice (suc n) v h =
    let b : v < 256 * 256 ^ n = rw pow-succ' at h in
    let r = swapped n (v / 256) in
    let s = swapped_split n 1 r (v % 256) (swapped_below n (v / 256)) in
    let t = swapped_twice n (v / 256) (omega arith) in
    let c : v % 256 * 256 ^ n + r ≡ r + 256 ^ n * (v % 256) = rw mul_comm (omega arith) in
    let n1 : n + 1 ≡ suc n = omega arith in
    let one : swapped 1 (v % 256) ≡ v % 256 = omega arith in
    ap (swapped (suc n)) c ∙ ((rw n1 at s) ∙ rw (t, one) (omega arith))

-- a number of two parts, each read by itself
pub le_split : (n m : ℕ) (s : List ℕ) → le (n + m) s ≡ le n s + 256 ^ n * le m (drop n s)
unfolding le
le_split zero m s = let e : 0 + m ≡ m = omega arith in rw e (omega arith)
le_split (suc n) zero [] = let e : suc n + 0 ≡ suc n = omega arith in rw e (omega arith)
le_split (suc n) (suc m) [] = let e : suc n + suc m ≡ suc (n + suc m) = omega arith in rw e (omega arith)
le_split (suc n) m (b ∷ s) =
    let e : suc n + m ≡ suc (n + m) = omega arith in rw e (rw (le_split n m s, pow-succ', mul_assoc) (omega arith))

-- ---- Prefix masks

pub mask_below : (w p : ℕ) → prefix_mask w p < 2 ^ w
unfolding prefix_mask
mask_below w p = omega (arith, one-le-pow (w - p) 2 (lit< tt), one-le-pow w 2 (lit< tt))

-- a longer one is larger
mask_rises : (w p q : ℕ) → p < q → q ≤ w → prefix_mask w p < prefix_mask w q
unfolding prefix_mask
mask_rises w p q h l =
    let a : 2 ^ (w - q) < 2 ^ (w - p) = pow-lt (omega arith) in
    let b : 2 ^ (w - p) ≤ 2 ^ w = pow-le-pow_right (lit< tt) (omega arith) in
    omega arith

module _ (w mask : ℕ) where
  from_at_most : (n p : ℕ) → length_from n w mask p ≤ p + n
  unfolding length_from
  from_at_most zero p = omega arith
  from_at_most (suc n) p =
      by_test (eqb mask (prefix_mask w p)) (λ e. rw e (omega arith)) (λ e. rw e (omega (arith, from_at_most n (suc p))))

  from_is : (n p : ℕ) → length_from n w mask p < p + n → mask ≡ prefix_mask w (length_from n w mask p)
  unfolding length_from
  from_is zero p h = absurd (omega arith)
  from_is (suc n) p h =
      by_test (eqb mask (prefix_mask w p))
      (λ e. rw e (eqb-true mask (prefix_mask w p) e))
      (λ e. let k = rw e at h in rw e (from_is n (suc p) (omega arith)))

  from_none : (n p : ℕ) → ((q : ℕ) → p ≤ q → q < p + n → mask ≡ prefix_mask w q → ⊥) → length_from n w mask p ≡ p + n
  unfolding length_from
  from_none zero p h = omega arith
  from_none (suc n) p h =
      rw (ne_eqb mask (prefix_mask w p) (h p (omega arith) (omega arith)))
      (from_none n (suc p) (λ q a b. h q (omega arith) (omega arith)) ∙ omega arith)

  -- a mask has w + 1 at most, and a mask with less is the prefix mask of that length
  pub length_at_most : prefix_length w mask ≤ suc w
  unfolding prefix_length
  length_at_most = omega (arith, from_at_most (suc w) 0)

  pub mask_of_length : prefix_length w mask ≤ w → mask ≡ prefix_mask w (prefix_length w mask)
  unfolding prefix_length
  mask_of_length h = from_is (suc w) 0 (omega arith)

  -- no prefix mask
  pub length_none : ((q : ℕ) → q ≤ w → mask ≡ prefix_mask w q → ⊥) → prefix_length w mask ≡ suc w
  unfolding prefix_length
  length_none h = from_none (suc w) 0 (λ q a b. h q (omega arith)) ∙ omega arith

from_mask : (w n p k : ℕ) → p ≤ k → k < p + n → k ≤ w → length_from n w (prefix_mask w k) p ≡ k
unfolding length_from
from_mask w zero p k a b c = absurd (omega arith)
from_mask w (suc n) p k a b c =
    by_eq p k
    (λ e q. rw (e, eq-eqb (prefix_mask w k) (prefix_mask w k) refl))
    (λ d q.
    let l = mask_rises w p k (omega arith) c in
    rw (ne_eqb (prefix_mask w k) (prefix_mask w p) (λ e. omega arith)) (from_mask w n (suc p) k (omega arith) (omega arith) c))

-- THE LENGTH OF A PREFIX MASK, of any width
pub length_of_mask : (w p : ℕ) → p ≤ w → prefix_length w (prefix_mask w p) ≡ p
unfolding prefix_length
length_of_mask w p h = from_mask w (suc w) 0 p (omega arith) (omega arith) h

-- ---- Comparing

scaled_eqb : (a b k : ℕ) → 0 < k → eqb (a * k) (b * k) ≡ eqb a b
scaled_eqb a b k h =
    by_eq a b (λ e q. rw (e, eq-eqb (b * k) (b * k) refl, eq-eqb b b refl)) (λ d q. rw q (ne_eqb (a * k) (b * k) (λ e. d (eq_of_mul-eq-mul_right k h a b e))))

under_mask : (w p a : ℕ) → a < 2 ^ w → bit_and a (prefix_mask w p) ≡ a / 2 ^ (w - p) * 2 ^ (w - p)
unfolding prefix_mask
under_mask w p a h =
    let j = w - (w - p) in
    let e : j + (w - p) ≡ w = omega arith in
    let b : bit_and a (2 ^ (j + (w - p)) - 2 ^ (w - p)) ≡ a / 2 ^ (w - p) % 2 ^ j * 2 ^ (w - p) = and_high a j (w - p) in
    (rw e at b) ∙ ap (λ (x : ℕ). x * 2 ^ (w - p)) (shr_mod j (w - p) (rw e h))

-- ONE LAW FOR EVERY WIDTH: two addresses agree under the mask of a prefix exactly if their first bits are the same
pub agree_first : (w p a b : ℕ) → a < 2 ^ w → b < 2 ^ w → agree w p a b ≡ eqb (a / 2 ^ (w - p)) (b / 2 ^ (w - p))
unfolding agree
agree_first w p a b h k =
    rw (under_mask w p a h, under_mask w p b k) (scaled_eqb (a / 2 ^ (w - p)) (b / 2 ^ (w - p)) (2 ^ (w - p)) (one-le-pow (w - p) 2 (lit< tt)))

-- ---- Addresses in two words

pub aligned_in : (w a : ℕ) → address_in w (aligned_high w a) (aligned_low w a) ≡ a
unfolding address_in aligned_high aligned_low
aligned_in w a = rw (split (a * 2 ^ (128 - w)) 64) (shl-shr a (128 - w))

module _ (w p : ℕ) (wide : w ≤ 128) where
  shifts : 128 - w + (w - p) ≡ 128 - min p w
  shifts = by_le p w (λ h q. rw (min-eq_left h) (omega arith)) (λ h q. let k : w ≤ p = omega arith in rw (min-eq_right k) (omega arith))

  address_below : (high low : ℕ) → high < 2 ^ 64 → low < 2 ^ 64 → address_in w high low < 2 ^ w
  unfolding address_in
  address_below h l a b =
      let e : w + (128 - w) ≡ 128 = omega arith in
      shr_lt w (128 - w) (rw e (digits_lt a b))

  address_first : (high low : ℕ) → address_in w high low / 2 ^ (w - p) ≡ (high * 2 ^ 64 + low) / 2 ^ (128 - min p w)
  unfolding address_in
  address_first h l = shr-shr (h * 2 ^ 64 + l) (128 - w) (w - p) ∙ rw shifts

  -- what is compared of the words: as many of their first bits as the prefix has, whatever the width
  pub agree_words : (high low high' low' : ℕ) → high < 2 ^ 64 → low < 2 ^ 64 → high' < 2 ^ 64 → low' < 2 ^ 64
      → agree w p (address_in w high low) (address_in w high' low')
      ≡ eqb ((high * 2 ^ 64 + low) / 2 ^ (128 - min p w)) ((high' * 2 ^ 64 + low') / 2 ^ (128 - min p w))
  agree_words h l h' l' a b a' b' =
      rw
      (agree_first w p (address_in w h l) (address_in w h' l') (address_below h l a b) (address_below h' l' a' b'), address_first h l, address_first h' l')
