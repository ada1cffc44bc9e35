-- Laws of digits and words.
-- Assumes nothing.
use Prim.Native.Nat.{ℕ, ◌+◌, ◌*◌, ◌≤◌, ◌<◌}
use mathlib.Core.Path.{◌≡◌, refl, sym, ◌∙◌}
use mathlib.Core.Bool.{Bool, true, false, ◌&&◌}
use mathlib.Core.List.{List, [], ◌∷◌}
use native.Mathlib.Omega.{arith}
use lib.ListN.{length}
use lib.Dec.{eqb, ltb}
use borrow.Author.Tests.{lt-ltb, le-ltb, ne_eqb}
use Rattle.std.specs.Prelude.{Some, None, is_some}
use lib.Pointwise.{pointwise}
use Rattle.std.proofs.lemmas.Bool.{ltb-true, ltb-false}
use Rattle.std.proofs.lemmas.Option.{none-some, same_Some}
use Rattle.std.specs.List.{list_all}
use Rattle.text.specs.Text.{digit_of, digit_in, all_digits}
use Rattle.hexadecimal.specs.Hex.{is_dash, counted, pair_of}

some_in : (b : ℕ) (t : Bool) → ltb (digit_of b) 16 ≡ t → is_some (digit_in 16 b) ≡ t
unfolding digit_in
some_in b true e = rw e refl
some_in b false e = rw e refl

pub is_digit : (b : ℕ) → is_some (digit_in 16 b) ≡ ltb (digit_of b) 16
is_digit b = some_in b (ltb (digit_of b) 16) refl

pub all_are : (s : List ℕ) → list_all (λ b. is_some (digit_in 16 b)) s ≡ all_digits 16 s
unfolding all_digits
all_are [] = refl
all_are (b ∷ s) = rw (is_digit b, all_are s) refl

some_by : (b v : ℕ) (t : Bool) → ltb (digit_of b) 16 ≡ t → Some v ≡ digit_in 16 b → (digit_of b < 16) × (v ≡ digit_of b)
unfolding digit_in
some_by b v true e h = (ltb-true _ _ e, same_Some _ _ (rw e at h))
some_by b v false e h = elim (none-some v (sym (rw e at h))) [ ]

-- the value of a digit where there is one
pub digit_some : (b v : ℕ) → Some v ≡ digit_in 16 b → (digit_of b < 16) × (v ≡ digit_of b)
digit_some b v h = some_by b v (ltb (digit_of b) 16) refl h

none_by : (b : ℕ) (t : Bool) → ltb (digit_of b) 16 ≡ t → None ≡ digit_in 16 b → 16 ≤ digit_of b
unfolding digit_in
none_by b true e h = elim (none-some (digit_of b) (rw e at h)) [ ]
none_by b false e h = ltb-false _ _ e

pub digit_none : (b : ℕ) → None ≡ digit_in 16 b → 16 ≤ digit_of b
digit_none b h = none_by b (ltb (digit_of b) 16) refl h

pub high_none : (h l : ℕ) → None ≡ digit_in 16 h → 0 ≡ pair_of h l
unfolding pair_of
high_none h l e = rw (le-ltb (digit_of h) 16 (digit_none h e))

pub low_none : (h l v : ℕ) → Some v ≡ digit_in 16 h → None ≡ digit_in 16 l → 0 ≡ pair_of h l
unfolding pair_of
low_none h l v d e = rw (lt-ltb (digit_of h) 16 (digit_some h v d).0, le-ltb (digit_of l) 16 (digit_none l e))

pub both_some : (h l v w : ℕ) → Some v ≡ digit_in 16 h → Some w ≡ digit_in 16 l → v * 16 + w ≡ pair_of h l
unfolding pair_of
both_some h l v w d e =
    let a = digit_some h v d in
    let b = digit_some l w e in
    rw (lt-ltb (digit_of h) 16 a.0, lt-ltb (digit_of l) 16 b.0, a.1, b.1) refl

and_true : (a : Bool) → (a && true) ≡ a
and_true true = refl
and_true false = refl

and_false : (a : Bool) → (a && false) ≡ false
and_false true = refl
and_false false = refl

-- whether a word is - alone
pub dash_is : (s : List ℕ) → pointwise eqb s (45 ∷ []) ≡ is_dash s
unfolding is_dash
dash_is [] = refl
dash_is (a ∷ []) = and_true (eqb a 45)
dash_is (a ∷ b ∷ s) = and_false (eqb a 45) ∙ rw (ne_eqb (length (a ∷ b ∷ s)) 1 (omega arith)) refl

pub dash : (s dash : List ℕ) → dash ≡ 45 ∷ [] → true ≡ pointwise eqb s dash → Some 0 ≡ counted s
unfolding counted
dash s d e h = rw (← dash_is s, ← e, ← h) refl
