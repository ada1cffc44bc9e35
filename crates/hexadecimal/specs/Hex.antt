-- Byte strings of a script: hexadecimal digits, two to a byte, or - for none.
use Rattle.std.specs.Prelude.{ℕ, ◌+◌, ◌*◌, ◌/◌, ◌%◌, ◌<◌, ◌≡◌, List, Bool, ◌&&◌, length, get_or, ltb, eqb, Option, Some, None}
use Rattle.text.specs.Text.{pick, digit_of, all_digits}

-- the byte - alone
unfoldable pub is_dash : List ℕ → Bool
is_dash s = eqb (length s) 1 && eqb (get_or s 0 0) 45

-- how many bytes a word stands for; none unless it is - or digits, two to a byte
unfoldable pub counted : List ℕ → Option ℕ
counted s =
    pick (is_dash s) (Some 0)
    (pick (eqb (length s) 0) None
    (pick (eqb (length s % 2) 0) (pick (all_digits 16 s) (Some (length s / 2)) None) None))

-- the byte of two digits, the higher first; 0 where one is none
unfoldable pub pair_of : ℕ → ℕ → ℕ
pair_of h l = pick (ltb (digit_of h) 16) (pick (ltb (digit_of l) 16) (digit_of h * 16 + digit_of l) 0) 0

-- the byte of a number, counted from 0; 0 past the last
unfoldable pub byte_of : List ℕ → ℕ → ℕ
byte_of s i = pick (ltb i (length s / 2)) (pair_of (get_or s (2 * i) 0) (get_or s (2 * i + 1) 0)) 0

-- bytes that are those of a word, each at its position
unfoldable pub BytesOf : List ℕ → List ℕ → Type 0
BytesOf s out = (i : ℕ) → i < length out → get_or out i 0 ≡ byte_of s i

-- a digit, as a small letter from ten up
unfoldable pub letter_of : ℕ → ℕ
letter_of v = pick (ltb v 10) (48 + v) (pick (ltb v 16) (87 + v) 63)

-- the digit of a number, counted from 0, of bytes spelled out; ? past the last
unfoldable pub spelled_at : List ℕ → ℕ → ℕ
spelled_at s k =
    pick (ltb (k / 2) (length s)) (letter_of (pick (eqb (k % 2) 0) (get_or s (k / 2) 0 / 16) (get_or s (k / 2) 0 % 16))) 63

-- digits that are those of bytes, each at its position
unfoldable pub SpellingOf : List ℕ → List ℕ → Type 0
SpellingOf s out = (k : ℕ) → k < length out → get_or out k 0 ≡ spelled_at s k
