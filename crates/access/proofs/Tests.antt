-- A test on sums.
-- Assumes nothing.
use Prim.Native.Nat.{ℕ, ◌+◌}
use mathlib.Core.Path.{◌≡◌, sym, ◌∙◌}
use native.Mathlib.Omega.{arith}
use lib.Dec.{leb}
use borrow.Author.Tests.{le-leb, lt-leb}
use Rattle.rules.proofs.Cases.{by_le}

-- both sides of a test may grow by as much
pub leb_shifted : (a m k : ℕ) → leb a m ≡ leb (a + k) (m + k)
leb_shifted a m k =
    by_le a m (λ h p. p ∙ sym (le-leb (a + k) (m + k) (omega arith))) (λ h p. p ∙ sym (lt-leb (a + k) (m + k) (omega arith)))
