-- One line of a script: its words, and the number that a word stands for.
use Rattle.std.specs.Prelude.{ℕ, zero, suc, ◌+◌, ◌-◌, ◌*◌, ◌^◌, Bool, true, false, ◌&&◌, List, [], ◌∷◌, length, get_or, take, drop, ltb, eqb, Option, Some, None}

abbrev pub pick : {A : Type 0} → Bool → A → A → A
pick true a b = a
pick false a b = b

-- ---- Words

-- the bytes before the first space
unfoldable pub word_length : List ℕ → ℕ
word_length [] = 0
word_length (b ∷ s) = pick (eqb b 32) 0 (suc (word_length s))

-- the word of a number, counted from 0: what stands before the first space, or a word of what comes after that space
unfoldable pub word_at : ℕ → List ℕ → List ℕ
word_at zero s = take (word_length s) s
word_at (suc k) s = word_at k (drop (word_length s + 1) s)

-- one more than there are spaces
unfoldable pub spaces : List ℕ → ℕ
spaces [] = 0
spaces (b ∷ s) = pick (eqb b 32) (suc (spaces s)) (spaces s)

unfoldable pub word_count : List ℕ → ℕ
word_count s = spaces s + 1

-- ---- Numbers

-- the value of a digit, 0 to 9, A to F or a to f; 16 for any other byte
unfoldable pub digit_of : ℕ → ℕ
digit_of b =
    pick (ltb b 48) 16
    (pick (ltb b 58) (b - 48)
    (pick (ltb b 65) 16
    (pick (ltb b 71) (b - 55)
    (pick (ltb b 97) 16
    (pick (ltb b 103) (b - 87)
    16)))))

-- a digit of a base, at most 16; none for any other byte
unfoldable pub digit_in : ℕ → ℕ → Option ℕ
digit_in base b = pick (ltb (digit_of b) base) (Some (digit_of b)) None

unfoldable pub all_digits : ℕ → List ℕ → Bool
all_digits base [] = true
all_digits base (b ∷ s) = ltb (digit_of b) base && all_digits base s

-- the value of digits, the highest first, after some whose value is v
unfoldable pub value_from : ℕ → ℕ → List ℕ → ℕ
value_from base v [] = v
value_from base v (b ∷ s) = value_from base (v * base + digit_of b) s

-- a number of 64 bits in digits of a base
unfoldable pub numeral : ℕ → List ℕ → Option ℕ
numeral base s = pick (all_digits base s && ltb (value_from base 0 s) (2 ^ 64)) (Some (value_from base 0 s)) None

-- something after 0x
unfoldable pub is_hex : List ℕ → Bool
is_hex s = ltb 2 (length s) && eqb (get_or s 0 0) 48 && eqb (get_or s 1 0) 120

-- the number of a word; an empty one stands for none
unfoldable pub number_of : List ℕ → Option ℕ
number_of s = pick (eqb (length s) 0) None (pick (is_hex s) (numeral 16 (drop 2 s)) (numeral 10 s))

-- ---- The numbers of a line

unfoldable pub argument_of : ℕ → List ℕ → Option ℕ
argument_of k s = number_of (word_at k s)

-- a number before others, where all are well formed
abbrev pub before : Option ℕ → Option (List ℕ) → Option (List ℕ)
before None others = None
before (Some v) None = None
before (Some v) (Some vs) = Some (v ∷ vs)

-- so many words as numbers, the first of them that of a number
unfoldable pub numbers_from : ℕ → ℕ → List ℕ → Option (List ℕ)
numbers_from k zero s = Some []
numbers_from k (suc n) s = before (argument_of k s) (numbers_from (suc k) n s)

-- what follows the name of a call, on a line of so many words behind it
unfoldable pub arguments_of : ℕ → List ℕ → Option (List ℕ)
arguments_of n s = pick (eqb (word_count s) (n + 1)) (numbers_from 1 n s) None
