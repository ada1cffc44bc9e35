-- The numbers of places that move: those of the first so many slots are new, then all are.
-- Assumes nothing.
use Prim.Native.Nat.{ℕ, zero, suc, ◌+◌, ◌<◌, ◌≤◌}
use mathlib.Core.Path.{◌≡◌, refl, ap}
use mathlib.Core.List.{List, [], ◌∷◌, map}
use native.Mathlib.Omega.{arith}
use native.Mathlib.Numerals.{add-one}
use lib.ListN.{length, take, get_or, set}

pub take_map : (f : ℕ → ℕ) (n : ℕ) (l : List ℕ) → take n (map f l) ≡ map f (take n l)
take_map f zero [] = refl
take_map f zero (x ∷ l) = refl
take_map f (suc n) [] = refl
take_map f (suc n) (x ∷ l) = ap {B = List ℕ} (λ r. f x ∷ r) (take_map f n l)

-- the first i numbers by f
abbrev pub first : (ℕ → ℕ) → ℕ → List ℕ → List ℕ
first f zero l = l
first f (suc i) [] = []
first f (suc i) (x ∷ l) = f x ∷ first f i l

-- one more
first_more : (f : ℕ → ℕ) (i : ℕ) (l : List ℕ) → i < length l → set (first f i l) i (f (get_or (first f i l) i 0)) ≡ first f (suc i) l
first_more f i [] h = absurd (omega arith)
first_more f zero (x ∷ l) h = refl
first_more f (suc i) (x ∷ l) h = ap {B = List ℕ} (λ r. f x ∷ r) (first_more f i l (omega arith))

pub first_all : (f : ℕ → ℕ) (i : ℕ) (l : List ℕ) → length l ≤ i → first f i l ≡ map f l
first_all f zero [] h = refl
first_all f zero (x ∷ l) h = absurd (omega arith)
first_all f (suc i) [] h = refl
first_all f (suc i) (x ∷ l) h = ap {B = List ℕ} (λ r. f x ∷ r) (first_all f i l (omega arith))

pub more : (f : ℕ → ℕ) (i : ℕ) (l₀ l : List ℕ) (x : ℕ) → l ≡ first f i l₀ → i < length l₀ → x ≡ f (get_or l i 0) → set l i x ≡ first f (i + 1) l₀
more f i l₀ l x is h e = rw (add-one, e, is) (first_more f i l₀ h)
