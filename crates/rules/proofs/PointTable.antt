-- Points that are computed: what is seen beside what is expected, a list of numbers each, and one test for a whole table of them.
-- Assumes nothing.
use Prim.Native.Nat.{ℕ}
use mathlib.Core.Bool.{Bool, true, false, ◌&&◌}
use mathlib.Core.List.{List, [], ◌∷◌}
use lib.Dec.{eqb}

pub record Point : Type 0 where
  pub seen : List ℕ
  pub expected : List ℕ

abbrev pub point : List ℕ → List ℕ → Point
point seen expected = record { seen = seen; expected = expected }

abbrev pub same : List ℕ → List ℕ → Bool
same [] [] = true
same [] (b ∷ ys) = false
same (a ∷ xs) [] = false
same (a ∷ xs) (b ∷ ys) = eqb a b && same xs ys

abbrev pub all : List Point → Bool
all [] = true
all (p ∷ ps) = same p.seen p.expected && all ps
