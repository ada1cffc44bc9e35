-- Two arrays side by side: lengths, stores and readings of both are those of the pairs.
-- Assumes nothing.
use Prim.Native.Nat.{ℕ, zero, suc}
use mathlib.Core.Path.{◌≡◌, refl, ap}
use mathlib.Core.List.{List, [], ◌∷◌, map}
use native.Mathlib.Omega.{arith}
use lib.ListN.{length, take, get_or, set}
use Rattle.rules.specs.Rows.{GroupRows, beside}

pub set_beside : (hs ms : List (List ℕ)) (i : ℕ) (h m : List ℕ) → beside (set hs i h) (set ms i m) ≡ set (beside hs ms) i (h, m)
set_beside [] ms i h m = refl
set_beside (x ∷ hs) [] zero h m = refl
set_beside (x ∷ hs) [] (suc i) h m = refl
set_beside (x ∷ hs) (y ∷ ms) zero h m = refl
set_beside (x ∷ hs) (y ∷ ms) (suc i) h m = ap {B = List GroupRows} (λ r. (x, y) ∷ r) (set_beside hs ms i h m)

-- past the end both give the empty row
pub get_d_beside : (hs ms : List (List ℕ)) (i : ℕ) → length hs ≡ length ms → get_or (beside hs ms) i ([], []) ≡ (get_or hs i [], get_or ms i [])
get_d_beside [] [] i e = refl
get_d_beside [] (y ∷ ms) i e = absurd (omega arith)
get_d_beside (x ∷ hs) [] i e = absurd (omega arith)
get_d_beside (x ∷ hs) (y ∷ ms) zero e = refl
get_d_beside (x ∷ hs) (y ∷ ms) (suc i) e = get_d_beside hs ms i (omega arith)

pub length_beside : (hs ms : List (List ℕ)) → length hs ≡ length ms → length (beside hs ms) ≡ length hs
length_beside [] ms e = refl
length_beside (x ∷ hs) [] e = absurd (omega arith)
length_beside (x ∷ hs) (y ∷ ms) e = ap suc (length_beside hs ms (omega arith))

abbrev pub head_of : GroupRows → List ℕ
head_of r = r.0

pub heads_of : (n : ℕ) (hs ms : List (List ℕ)) → length hs ≡ length ms → map head_of (take n (beside hs ms)) ≡ take n hs
heads_of zero hs ms e = refl
heads_of (suc n) [] ms e = refl
heads_of (suc n) (x ∷ hs) [] e = absurd (omega arith)
heads_of (suc n) (x ∷ hs) (y ∷ ms) e = ap {B = List (List ℕ)} (λ r. x ∷ r) (heads_of n hs ms (omega arith))
