-- A table by number against its rule, once for every table; and what holds of every row of the field table.
-- Assumes nothing.
use mathlib.Core.Path.{◌≡◌, ◌∙◌, ap}
use mathlib.Core.Bool.{Bool, true, false, ◌&&◌}
use mathlib.Core.List.{List, [], ◌∷◌}
use Prim.Native.Nat.{ℕ, zero, suc, ◌+◌, ◌-◌, ◌<◌, ◌≤◌}
use native.Mathlib.Nat.{add-zero, le_of_suc-le-suc, not-suc-le-zero}
use native.Mathlib.Omega.{arith}
use lib.Dec.{T, leb, ltb, eqb, leb→le, ltb→lt}
use lib.ListN.{get_or}
use borrow.Author.Tests.{ne_eqb, lt-leb}
use Rattle.rules.specs.Choose.{choose}
use Rattle.rules.specs.Fields.{Row, rows, member_width, rule_in, rule_of, every_below}
use Rattle.rules.specs.declared.FieldRule.{FieldRule}
use Rattle.rules.proofs.Cases.{by_le}

-- A table in code is, by computation, `tabulate rule n 0`: then its entry at k is the rule at k
module _ {A : Type 0} (f : ℕ → A) where
  -- f at i, i + 1 and so on, n of them
  abbrev pub tabulate : ℕ → ℕ → List A
  tabulate zero i = []
  tabulate (suc n) i = f i ∷ tabulate n (suc i)

  from : (n i k : ℕ) (d : A) → k < n → get_or (tabulate n i) k d ≡ f (i + k)
  from zero i k d h = absurd (not-suc-le-zero h)
  from (suc n) i zero d h = rw add-zero
  from (suc n) i (suc k) d h = let e : i + suc k ≡ suc i + k = omega arith in rw e (from n (suc i) k d (le_of_suc-le-suc h))

  pub table : (n k : ℕ) (d : A) → k < n → get_or (tabulate n 0) k d ≡ f k
  table n k d h = let e : 0 + k ≡ k = omega arith in from n 0 k d h ∙ ap f e

both_left : (a b : Bool) → T (a && b) → T a
both_left true b t = tt
both_left false b t = t

both_right : (a b : Bool) → T (a && b) → T b
both_right true b t = t
both_right false b t = absurd t

-- no row is past 62
abbrev low_kinds : List Row → Bool
low_kinds [] = true
low_kinds (r ∷ rs) = ltb r.kind 63 && low_kinds rs

not_listed : (rs : List Row) (t : ℕ) → T (low_kinds rs) → 63 ≤ t
    → rule_in t rs ≡ record { width = 0; uses = 0; needs = 0; member_width = 0 }
unfolding rule_in member_width
not_listed [] t b h = by_le 1 t (λ l p. simp (p, lt-leb t 62 (omega arith))) (λ l p. simp p)
not_listed (r ∷ rs) t b h =
    let l = ltb→lt r.kind 63 (both_left (ltb r.kind 63) (low_kinds rs) b) in
    rw (ne_eqb r.kind t (λ e. omega arith)) (not_listed rs t (both_right (ltb r.kind 63) (low_kinds rs) b) h)

-- a type past the table's end is used by nobody
pub beyond : (t : ℕ) → 63 ≤ t → rule_of t ≡ record { width = 0; uses = 0; needs = 0; member_width = 0 }
unfolding rule_of rows
beyond t h = not_listed rows t tt h

-- what a computed test shows of the width of every row, and of 0, holds of every type's width
module _ (p : ℕ → Bool) where
  abbrev pub every_width : List Row → Bool
  every_width [] = p 0
  every_width (r ∷ rs) = p r.width && every_width rs

  either : (b : Bool) (x y : FieldRule) → T (p x.width) → T (p y.width) → T (p (choose b x y).width)
  either true x y h k = h
  either false x y h k = k

  width_in : (rs : List Row) (t : ℕ) → T (every_width rs) → T (p (rule_in t rs).width)
  unfolding rule_in
  width_in [] t b = b
  width_in (r ∷ rs) t b =
      either (eqb r.kind t) _ (rule_in t rs) (both_left (p r.width) (every_width rs) b)
      (width_in rs t (both_right (p r.width) (every_width rs) b))

  pub width_of : T (every_width rows) → (t : ℕ) → T (p (rule_of t).width)
  unfolding rule_of
  width_of b t = width_in rows t b

-- every width is 16 at most
pub narrow : (t : ℕ) → (rule_of t).width ≤ 16
unfolding rows
narrow t = leb→le (rule_of t).width 16 (width_of (λ w. leb w 16) tt t)

-- every number below t, from the last one down
module _ (f : ℕ → Bool) (t : ℕ) where
  pub every_none : t ≤ 0 → every_below t f ≡ true
  unfolding every_below
  every_none h = let z : t ≡ 0 = omega arith in rw z

  pub every_fails : (j : ℕ) → 0 < t → j ≡ t - 1 → f j ≡ false → every_below t f ≡ false
  unfolding every_below
  every_fails j h e b = let z : t ≡ suc j = omega arith in rw (z, b)

  pub every_next : (j : ℕ) → 0 < t → j ≡ t - 1 → f j ≡ true → every_below t f ≡ every_below j f
  unfolding every_below
  every_next j h e b = let z : t ≡ suc j = omega arith in rw (z, b)
