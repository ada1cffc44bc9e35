-- A table as an array of places, for any row and any entry that is read from it.
use Rattle.std.specs.Prelude.{ℕ, List, map, take}

pub record Places (R : Type 0) : Type 0 where
  pub count : ℕ
  pub rows : List R

abbrev pub places : {R : Type 0} → ℕ → List R → Places R
places count rows = record { count = count; rows = rows }

module _ {R A : Type 0} (read : R → A) where
  -- the live entries: those in the first `count` places
  unfoldable pub live : Places R → List A
  live t = map read (take t.count t.rows)
