-- Distances on a ring: by the order of two positions, and that each is below the size.
-- Assumes nothing.
use Prim.Native.Nat.{ℕ, ◌+◌, ◌-◌, ◌%◌, ◌≤◌, ◌<◌}
use mathlib.Core.Path.{◌≡◌, sym, ◌∙◌}
use native.Mathlib.Omega.{arith}
use native.Mathlib.Nat.{mod-lt, mod-eq_of_lt, add-mod_right}
use Rattle.rules.specs.declared.Ring.{Ring}
use Rattle.rules.specs.Ring.{distance, outstanding, advance}

-- by the positions of both: the second at or after the first, or before it
module _ (size from to : ℕ) {a b : ℕ} (positive : 0 < size) (p : a ≡ to % size) (q : b ≡ from % size) where
  pub distance_ahead : b ≤ a → a - b ≡ distance size from to
  unfolding distance
  distance_ahead h =
      let k : a < size = rw p (mod-lt to positive) in
      let e : a + size - b ≡ a - b + size = omega arith in
      rw (← p, ← q, e) (sym (add-mod_right (a - b) size ∙ mod-eq_of_lt (omega arith)))

  pub distance_behind : a < b → a + size - b ≡ distance size from to
  unfolding distance
  distance_behind h =
      let k : b < size = rw q (mod-lt from positive) in
      rw (← p, ← q) (sym (mod-eq_of_lt (omega arith)))

distance_below : (size from to : ℕ) → 0 < size → distance size from to < size
unfolding distance
distance_below size from to h = mod-lt _ h

pub outstanding_below : (r : Ring) → 0 < r.size → outstanding r < r.size
unfolding outstanding
outstanding_below r h = distance_below r.size r.tail r.head h

pub advance_below : (r : Ring) (new : ℕ) → 0 < r.size → advance r new < r.size
unfolding advance
advance_below r new h = distance_below r.size r.head new h
