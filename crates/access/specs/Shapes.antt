-- The two shapes of an access that is allowed.
use Rattle.std.specs.Prelude.{ℕ, ◌+◌, ◌%◌, Bool, ◌&&◌, leb, eqb}

unfoldable pub is_narrow : ℕ → ℕ → Bool
is_narrow offset width = eqb width 4 && eqb (offset % 4) 0 && leb (offset + 4) 0x2000

unfoldable pub is_eight : ℕ → ℕ → Bool
is_eight offset width = eqb width 8 && eqb (offset % 8) 0 && leb (offset + 8) 0x2000
