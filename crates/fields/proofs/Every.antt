-- A test of each number below another: all come out true, or one does not.
-- Assumes nothing.
use Prim.Native.Nat.{ℕ, zero, suc, ◌<◌}
use mathlib.Core.Path.{◌≡◌, refl}
use mathlib.Core.Bool.{Bool, true, false}
use native.Mathlib.Omega.{arith}
use Rattle.rules.specs.Fields.{every_below}
use Rattle.rules.proofs.Cases.{by_eq, by_test}

pub every_one : (n : ℕ) (f : ℕ → Bool) → ((k : ℕ) → k < n → f k ≡ true) → every_below n f ≡ true
unfolding every_below
every_one zero f h = refl
every_one (suc n) f h = rw (h n (omega arith), every_one n f (λ k l. h k (omega arith)))

pub not_every : (n k : ℕ) (f : ℕ → Bool) → k < n → f k ≡ false → every_below n f ≡ false
unfolding every_below
not_every zero k f l e = absurd (omega arith)
not_every (suc n) k f l e =
    by_eq k n
    (λ same p. rw (← same, e))
    (λ other p. by_test (f n) (λ q. rw (q, not_every n k f (omega arith) e)) (λ q. rw q))
