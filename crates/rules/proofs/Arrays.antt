-- Lengths of an array of structs that stands in a struct, and of its live part.
-- Assumes nothing.
use Prim.Native.Nat.{ℕ, min, ◌<◌}
use mathlib.Core.Path.{◌≡◌, sym, ◌∙◌}
use mathlib.Core.List.{List, map}
use native.Mathlib.Omega.{arith}
use lib.ListN.{length, take, get_or, length-map, length-take}
use lib.Seq.{get_or-take}

-- what `search needs` lacks for elements that are no numbers
pub length_mapped : (X Y : Type 0) (f : X → Y) (l : List X) (n : ℕ) → length (map f l) ≡ n → length l ≡ n
length_mapped X Y f l n p = sym (length-map l f) ∙ p

-- the live entries are as many as the count says, and no more than there are slots
pub live_length : {A : Type 0} (n count slots : ℕ) (es : List A) → n ≡ min count slots → length es ≡ slots → n ≡ length (take count es)
live_length n count slots es e l = omega (arith, length-take count es)

-- a live entry is the one in its slot
pub live_at : {A : Type 0} (count i : ℕ) (d : A) (es : List A) → i < length (take count es) → get_or (take count es) i d ≡ get_or es i d
live_at count i d es h = get_or-take count es i d (omega (arith, length-take count es))
