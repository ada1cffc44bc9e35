-- A number written into a slice.
use Rattle.std.specs.Prelude.{ℕ, List}
use Rattle.rules.specs.Choose.{choose}
use Rattle.rules.specs.Bytes.{bytes_of, inside, splice}

-- v over the n bytes from a position on, where these are inside; else the slice as it was
unfoldable pub put : ℕ → ℕ → ℕ → List ℕ → List ℕ
put at n v s = choose (inside at n s) (splice at (bytes_of n v) s) s
