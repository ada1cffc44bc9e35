-- The first bits of two words, by those of each.
-- Assumes nothing.
use Prim.Native.Nat.{ℕ, ◌+◌, ◌-◌, ◌*◌, ◌/◌, ◌^◌, ◌<◌, ◌≤◌}
use mathlib.Core.Bool.{false}
use mathlib.Core.Path.{◌≡◌, refl, ap, sym, ◌∙◌}
use native.Mathlib.Nat.{one-le-pow, mul_assoc, mul-add-div_right}
use native.Mathlib.Omega.{arith}
use lib.Arith.{digits_div}
use lib.Pow.{pow-add, shr-shr, shr_lt, high}
use lib.Dec.{eqb, lit<, lit≤}
use borrow.Author.Tests.{eq-eqb, ne_eqb}
use Rattle.rules.specs.Address.{is_ipv6, address_bytes, address_bits}
use Rattle.rules.proofs.Cases.{by_test, by_eq}

pub bits_at_most : (ethertype : ℕ) → address_bits ethertype ≤ 128
unfolding address_bits address_bytes
bits_at_most ethertype = by_test (is_ipv6 ethertype) (λ p. rw p (lit≤ tt)) (λ p. rw p (lit≤ tt))

module _ (h l : ℕ) (fits : l < 2 ^ 64) where
  -- they are in the upper word
  pub in_upper : (n : ℕ) → n ≤ 64 → (h * 2 ^ 64 + l) / 2 ^ (128 - n) ≡ h / 2 ^ (64 - n)
  in_upper n k =
      let e : 128 - n ≡ 64 + (64 - n) = omega arith in
      rw e (sym (shr-shr (h * 2 ^ 64 + l) 64 (64 - n)) ∙ ap (λ (x : ℕ). x / 2 ^ (64 - n)) (high h 64 fits))

  -- or go on in the lower one
  in_both : (n : ℕ) → n ≤ 64 → (h * 2 ^ 64 + l) / 2 ^ (64 - n) ≡ h * 2 ^ n + l / 2 ^ (64 - n)
  in_both n k =
      let e : 64 ≡ n + (64 - n) = omega arith in
      let f : 2 ^ 64 ≡ 2 ^ n * 2 ^ (64 - n) = ap (λ (x : ℕ). 2 ^ x) e ∙ pow-add 2 n (64 - n) in
      let g : h * 2 ^ 64 + l ≡ h * 2 ^ n * 2 ^ (64 - n) + l = ap (λ (x : ℕ). h * x + l) f ∙ rw mul_assoc in
      ap (λ (x : ℕ). x / 2 ^ (64 - n)) g ∙ mul-add-div_right (one-le-pow (64 - n) 2 (lit< tt)) (h * 2 ^ n) l

  lower_fits : (n : ℕ) → n ≤ 64 → l / 2 ^ (64 - n) < 2 ^ n
  lower_fits n k = let e : n + (64 - n) ≡ 64 = omega arith in shr_lt n (64 - n) (rw e fits)

module _ (h l h' l' n : ℕ) (fits : l < 2 ^ 64) (fits' : l' < 2 ^ 64) (few : n ≤ 64) where
  pub upper_differ : (h ≡ h' → ⊥) → eqb ((h * 2 ^ 64 + l) / 2 ^ (64 - n)) ((h' * 2 ^ 64 + l') / 2 ^ (64 - n)) ≡ false
  upper_differ d =
      rw (in_both h l fits n few, in_both h' l' fits' n few)
      (ne_eqb _ _ (λ e. d (sym (digits_div h (lower_fits h l fits n few)) ∙ (ap (λ (x : ℕ). x / 2 ^ n) e ∙ digits_div h' (lower_fits h' l' fits' n few)))))

  pub upper_same : h ≡ h' → eqb ((h * 2 ^ 64 + l) / 2 ^ (64 - n)) ((h' * 2 ^ 64 + l') / 2 ^ (64 - n)) ≡ eqb (l / 2 ^ (64 - n)) (l' / 2 ^ (64 - n))
  upper_same e =
      rw (in_both h l fits n few, in_both h' l' fits' n few, e)
      (by_eq (l / 2 ^ (64 - n)) (l' / 2 ^ (64 - n))
      (λ f q. rw (f, eq-eqb (l' / 2 ^ (64 - n)) (l' / 2 ^ (64 - n)) refl) (eq-eqb (h' * 2 ^ n + l' / 2 ^ (64 - n)) (h' * 2 ^ n + l' / 2 ^ (64 - n)) refl))
      (λ f q. rw q (ne_eqb (h' * 2 ^ n + l / 2 ^ (64 - n)) (h' * 2 ^ n + l' / 2 ^ (64 - n)) (λ g. f (omega arith)))))
