-- Proofs by the answers of a test. Each case is handed the fact on the numbers, which `omega` then reads unasked, and the tests'
-- values, for `simp`.
-- Assumes nothing.
use Prim.Native.Nat.{ℕ, ◌<◌, ◌≤◌}
use mathlib.Core.Bool.{Bool, true, false, ◌&&◌, ◌||◌}
use mathlib.Core.Path.{◌≡◌, refl, sym, ◌∙◌}
use native.Mathlib.Omega.{arith}
use lib.Dec.{ltb, leb, eqb}
use borrow.Author.Tests.{ltb-true, ltb-false, leb-true, leb-false, eqb-true, eqb-false, ne_eqb}

pub by_test : {G : Type 0} (b : Bool) → (b ≡ true → G) → (b ≡ false → G) → G
by_test true f g = f refl
by_test false f g = g refl

pub by_lt : {G : Type 0} (a b : ℕ) → (a < b → ltb a b ≡ true → G) → (b ≤ a → ltb a b ≡ false → G) → G
by_lt a b f g = by_test (ltb a b) (λ p. f (ltb-true a b p) p) (λ p. g (ltb-false a b p) p)

pub by_le : {G : Type 0} (a b : ℕ) → (a ≤ b → leb a b ≡ true → G) → (b < a → leb a b ≡ false → G) → G
by_le a b f g = by_test (leb a b) (λ p. f (leb-true a b p) p) (λ p. g (leb-false a b p) p)

pub by_eq : {G : Type 0} (a b : ℕ) → (a ≡ b → eqb a b ≡ true → G) → ((a ≡ b → ⊥) → eqb a b ≡ false → G) → G
by_eq a b f g = by_test (eqb a b) (λ p. f (eqb-true a b p) p) (λ p. g (eqb-false a b p) p)

-- the three ways that two numbers stand
pub by_order : {G : Type 0} (a b : ℕ)
    → (a < b → ltb a b ≡ true → eqb a b ≡ false → G)
    → (a ≡ b → ltb a b ≡ false → eqb a b ≡ true → G)
    → (b < a → ltb a b ≡ false → eqb a b ≡ false → G) → G
by_order a b under same over =
    by_lt a b
    (λ h p. under h p (ne_eqb a b (omega arith)))
    (λ h p. by_eq a b (λ e q. same e p q) (λ n q. over (omega arith) p q))

-- two numbers that are not equal, by their order
pub gt_eqb : (a b : ℕ) → b < a → eqb a b ≡ false
gt_eqb a b h = ne_eqb a b (omega arith)

-- a test cannot come out both ways
pub not_both : {G : Type 0} → true ≡ false → G
not_both e = absurd (let z : ◌≡◌ {A = ℕ} 0 1 = cc in omega arith)

pub true_or_false : {G : Type 0} (b : Bool) → b ≡ true → b ≡ false → G
true_or_false b p q = not_both (sym p ∙ q)

-- the parts of a conjunction of tests
pub and_left : (a b : Bool) → a && b ≡ true → a ≡ true
and_left true b e = refl
and_left false b e = e

pub and_right : (a b : Bool) → a && b ≡ true → b ≡ true
and_right true b e = e
and_right false b e = not_both {G = b ≡ true} (cc)

-- a disjunction of tests that fails
pub or_left : (a b : Bool) → a || b ≡ false → a ≡ false
or_left true b e = e
or_left false b e = refl

pub or_right : (a b : Bool) → a || b ≡ false → b ≡ false
or_right true b e = not_both {G = b ≡ false} (cc)
or_right false b e = e
