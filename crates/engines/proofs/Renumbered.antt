-- What stands in a place after one was put in, written over or taken out: by `raise` and `lower` the others are found again.
-- Assumes nothing.
use Prim.Native.Nat.{ℕ, zero, suc, ◌+◌, ◌-◌, ◌<◌, ◌≤◌}
use mathlib.Core.Bool.{true}
use mathlib.Core.Path.{◌≡◌, refl, sym}
use mathlib.Core.List.{List, [], ◌∷◌}
use native.Mathlib.Omega.{arith}
use native.Mathlib.Numerals.{add-one}
use lib.ListN.{length, get_or, set}
use borrow.Author.Tests.{lt-ltb, le-leb, lt-leb}
use Rattle.rules.specs.Keyed.{insert_at, without, position, holds, Rising}
use Rattle.rules.specs.Engine.{raise, lower}
use Rattle.rules.proofs.Cases.{by_lt, by_order, not_both}
use Rattle.rules.proofs.Deciding.{above_mem}
use Rattle.engines.proofs.Sorted.{mem_at}

-- ---- The numbers

pub by_raise : {G : Type 0} (at x : ℕ) → x < 255 → (x < at → raise at x ≡ x → G) → (at ≤ x → raise at x ≡ x + 1 → G) → G
unfolding raise
by_raise at x s under over =
    by_lt x at
    (λ h p. under h (simp (lt-leb at x h)))
    (λ h p. over h (simp (le-leb at x h, lt-ltb x 255 s)))

pub by_lower : {G : Type 0} (at x : ℕ) → (x ≡ at → ⊥) → (x < at → lower at x ≡ x → G) → (at < x → lower at x ≡ x - 1 → G) → G
unfolding lower
by_lower at x n under over =
    by_lt at x
    (λ h p. over h (simp p))
    (λ h p. under (omega arith) (simp p))

-- ---- What stands there

module _ {A : Type 0} (d : A) where
  pub put_at : (p : ℕ) (e : A) (l : List A) → p ≤ length l → get_or (insert_at p e l) p d ≡ e
  put_at zero e l h = refl
  put_at (suc p) e [] h = absurd (omega arith)
  put_at (suc p) e (x ∷ l) h = put_at p e l (omega arith)

  put_under : (p q : ℕ) (e : A) (l : List A) → p ≤ length l → q < p → get_or (insert_at p e l) q d ≡ get_or l q d
  put_under zero q e l h k = absurd (omega arith)
  put_under (suc p) q e [] h k = absurd (omega arith)
  put_under (suc p) zero e (x ∷ l) h k = refl
  put_under (suc p) (suc q) e (x ∷ l) h k = put_under p q e l (omega arith) (omega arith)

  put_over : (p q : ℕ) (e : A) (l : List A) → p ≤ length l → p ≤ q → get_or (insert_at p e l) (suc q) d ≡ get_or l q d
  put_over zero q e l h k = refl
  put_over (suc p) q e [] h k = absurd (omega arith)
  put_over (suc p) zero e (x ∷ l) h k = absurd (omega arith)
  put_over (suc p) (suc q) e (x ∷ l) h k = put_over p q e l (omega arith) (omega arith)

  pub put_raise : (p q : ℕ) (e : A) (l : List A) → p ≤ length l → q < 255 → get_or (insert_at p e l) (raise p q) d ≡ get_or l q d
  put_raise p q e l h s =
      by_raise p q s
      (λ k r. rw r (put_under p q e l h k))
      (λ k r. rw (r, add-one) (put_over p q e l h k))

  without_under : (p q : ℕ) (l : List A) → q < p → get_or (without p l) q d ≡ get_or l q d
  without_under p q [] h = refl
  without_under zero q (x ∷ l) h = absurd (omega arith)
  without_under (suc p) zero (x ∷ l) h = refl
  without_under (suc p) (suc q) (x ∷ l) h = without_under p q l (omega arith)

  without_over : (p q : ℕ) (l : List A) → p ≤ q → get_or (without p l) q d ≡ get_or l (suc q) d
  without_over p q [] h = refl
  without_over zero q (x ∷ l) h = refl
  without_over (suc p) zero (x ∷ l) h = absurd (omega arith)
  without_over (suc p) (suc q) (x ∷ l) h = without_over p q l (omega arith)

  pub without_lower : (p q : ℕ) (l : List A) → (q ≡ p → ⊥) → get_or (without p l) (lower p q) d ≡ get_or l q d
  without_lower p q l n =
      by_lower p q n
      (λ k r. rw r (without_under p q l k))
      (λ k r. let z : suc (q - 1) ≡ q = omega arith in rw r (rw z at (without_over p (q - 1) l (omega arith))))

  pub set_at : (p : ℕ) (e : A) (l : List A) → p < length l → get_or (set l p e) p d ≡ e
  set_at p e [] h = absurd (omega arith)
  set_at zero e (x ∷ l) h = refl
  set_at (suc p) e (x ∷ l) h = set_at p e l (omega arith)

  pub set_other : (p q : ℕ) (e : A) (l : List A) → (q ≡ p → ⊥) → get_or (set l p e) q d ≡ get_or l q d
  set_other p q e [] n = refl
  set_other zero zero e (x ∷ l) n = absurd (n refl)
  set_other zero (suc q) e (x ∷ l) n = refl
  set_other (suc p) zero e (x ∷ l) n = refl
  set_other (suc p) (suc q) e (x ∷ l) n = set_other p q e l (omega arith)

  -- of rising keys, two places with one key are one place
  pub one_place : (key : A → ℕ) (p q : ℕ) (l : List A) → Rising key l → p < length l → q < length l → key (get_or l p d) ≡ key (get_or l q d) → p ≡ q
  one_place key p q [] s h k e = absurd (omega arith)
  one_place key zero zero (x ∷ l) s h k e = refl
  one_place key zero (suc q) (x ∷ l) s h k e =
      absurd (let z = above_mem key (key x) (get_or l q d) l s.0 (mem_at l q d (omega arith)) in omega arith)
  one_place key (suc p) zero (x ∷ l) s h k e =
      absurd (let z = above_mem key (key x) (get_or l p d) l s.0 (mem_at l p d (omega arith)) in omega arith)
  one_place key (suc p) (suc q) (x ∷ l) s h k e = let z = one_place key p q l s.1 (omega arith) (omega arith) e in omega arith

  -- a key that is held is that of the entry in its position
  pub holds_key : (key : A → ℕ) (k : ℕ) (l : List A) → holds key k l ≡ true → key (get_or l (position key k l) d) ≡ k
  unfolding position holds
  holds_key key k [] t = not_both (sym t)
  holds_key key k (x ∷ l) t =
      by_order (key x) k
      (λ h p q. simp p (holds_key key k l (simp p at t)))
      (λ h p q. simp p h)
      (λ h p q. not_both (sym (simp (p, q) at t)))
