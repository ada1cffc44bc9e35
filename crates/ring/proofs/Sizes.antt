-- Powers of two by the count of their ones.
-- Assumes nothing.
use Prim.Native.Nat.{ℕ, zero, suc, ◌+◌, ◌-◌, ◌*◌, ◌≤◌, ◌<◌, ◌^◌}
use mathlib.Core.Path.{◌≡◌, ap, ◌∙◌}
use mathlib.Core.Bool.{true, ◌&&◌}
use native.Mathlib.Omega.{arith}
use native.Mathlib.Nat.{pow-suc}
use lib.Dec.{leb, eqb}
use lib.Pow.{pow_pos}
use lib.Count.{ones, ones_cat}
use borrow.Author.Tests.{eq-eqb, ne_eqb, le-leb, lt-leb}
use Rattle.rules.proofs.Cases.{by_lt, by_le, by_order, gt_eqb}
use Rattle.rules.specs.Ring.{power_up_to}

-- the highest one of a number, and those below it
highest : (k v : ℕ) → 2 ^ k ≤ v → v < 2 ^ suc k → ones v ≡ 1 + ones (v - 2 ^ k)
unfolding ones
highest k v a b =
    let e : v ≡ 1 * 2 ^ k + (v - 2 ^ k) = omega arith in
    ap ones e ∙ ones_cat k 1 (v - 2 ^ k) (omega (arith, pow-suc 2 k))

-- a number that is not 0 has a one
some : (k v : ℕ) → 0 < v → v < 2 ^ k → 0 < ones v
some zero v a b = absurd (omega arith)
some (suc k) v a b = by_lt v (2 ^ k) (λ h p. some k v a h) (λ h p. omega (arith, highest k v h b))

-- between two powers it has more than one
several : (k v : ℕ) → 2 ^ k < v → v < 2 ^ suc k → 1 < ones v
several k v a b =
    omega (arith, highest k v (omega arith) b, some k (v - 2 ^ k) (omega arith) (omega (arith, pow-suc 2 k)))

-- a power has a single one
single : (k : ℕ) → ones (2 ^ k) ≡ 1
unfolding ones
single k =
    let z : 2 ^ k - 2 ^ k ≡ 0 = omega arith in
    highest k (2 ^ k) (omega arith) (omega (arith, pow_pos k, pow-suc 2 k)) ∙ ap (λ (x : ℕ). 1 + ones x) z

-- a power of two from 2 to 2 ^ k is a number of this range with a single one
pub power_by_count : (k v : ℕ) → power_up_to k v ≡ ((leb 2 v && leb v (2 ^ k)) && eqb (ones v) 1)
unfolding power_up_to
power_by_count zero v = by_le 2 v (λ h p. simp (p, lt-leb v 1 (omega arith))) (λ h p. simp p)
power_by_count (suc k) v =
    let d = pow-suc 2 k in
    by_le v (2 ^ k)
    (λ h p. simp (power_by_count k v, ne_eqb v (2 ^ suc k) (omega (arith, pow_pos k, d)), p, le-leb v (2 ^ suc k) (omega (arith, d))))
    (λ h p.
    let t : leb 2 v ≡ true = le-leb 2 v (omega (arith, pow_pos k)) in
    by_order v (2 ^ suc k)
    (λ g q r. simp (power_by_count k v, t, p, r, le-leb v (2 ^ suc k) (omega arith), gt_eqb (ones v) 1 (several k v h g)))
    (λ e q r. simp (t, r, le-leb v (2 ^ suc k) (omega arith), eq-eqb (ones v) 1 (ap ones e ∙ single (suc k))))
    (λ g q r. simp (power_by_count k v, t, p, r, lt-leb v (2 ^ suc k) g)))
