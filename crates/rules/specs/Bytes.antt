-- "The device we rent out": numbers in bytes, and what "inside" means.
use Rattle.std.specs.Prelude.{ℕ, zero, suc, ◌+◌, ◌*◌, ◌/◌, ◌%◌, ◌^◌, Bool, List, [], ◌∷◌, ◌++◌, length, take, drop, leb, eqb}

-- "Numbers are little-endian": the number that the first n bytes stand for; bytes past the end count 0
unfoldable pub le : ℕ → List ℕ → ℕ
le zero s = 0
le (suc n) [] = 0
le (suc n) (b ∷ s) = b + 256 * le n s

-- the number of n bytes at a position
unfoldable pub le_at : ℕ → List ℕ → ℕ → ℕ
le_at n s at = le n (drop at s)

-- a number in n bytes, little-endian
unfoldable pub bytes_of : ℕ → ℕ → List ℕ
bytes_of zero v = []
bytes_of (suc n) v = v % 256 ∷ bytes_of n (v / 256)

-- "those marked (N) big-endian": the big-endian number of the two bytes whose little-endian number is v
unfoldable pub swap16 : ℕ → ℕ
swap16 v = v % 256 * 256 + v / 256 % 256

-- the same of n bytes
unfoldable pub swapped : ℕ → ℕ → ℕ
swapped zero v = 0
swapped (suc n) v = v % 256 * 256 ^ n + swapped n (v / 256)

-- the n bytes from a position, or as many as there are
unfoldable pub part : ℕ → List ℕ → ℕ → List ℕ
part n s at = take n (drop at s)

-- a range does not go past the slice: "its true end" decides, a sum that no width cuts
unfoldable pub inside : ℕ → ℕ → List ℕ → Bool
inside at n s = leb (at + n) (length s)

-- a slice with a list written over it from a position on
unfoldable pub splice : ℕ → List ℕ → List ℕ → List ℕ
splice at new s = take at s ++ (new ++ drop (at + length new) s)

-- bit p of a number
unfoldable pub bit : ℕ → ℕ → Bool
bit p v = eqb (v / 2 ^ p % 2) 1
