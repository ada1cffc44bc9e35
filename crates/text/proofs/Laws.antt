-- Laws of words and numbers, a byte at a time.
-- Assumes nothing.
use Prim.Native.Nat.{ℕ, zero, suc, ◌+◌, ◌-◌, ◌*◌, ◌≤◌, ◌<◌, ◌^◌}
use mathlib.Core.Path.{◌≡◌, refl, sym, ap, ◌∙◌}
use mathlib.Core.Bool.{Bool, true, false, ◌&&◌}
use mathlib.Core.List.{List, [], ◌∷◌, ◌++◌}
use Rattle.std.proofs.Common.{append_assoc, append-nil}
use native.Mathlib.Omega.{arith}
use native.Mathlib.Numerals.{add-one}
use lib.ListN.{length, get_or, take, drop, drop_of_length-le}
use lib.Seq.{drop-cons}
use lib.Dec.{eqb, ltb}
use native.Mathlib.Nat.{mul-le-mul_left}
use mathlib.Core.Logic.{inl, inr}
use Rattle.std.proofs.lemmas.Bool.{cases_lt, ltb-true, ltb-false}
use lib.Pointwise.{pointwise}
use borrow.Author.Tests.{lt-ltb, le-ltb, eq-eqb, ne_eqb}
use Rattle.std.specs.Prelude.{Option, Some, None, unwrap_or}
use Rattle.std.specs.Option.{option_map, SomeIff, UnwrapsOrElse}
use denote.Ref.{Bor}
use Rattle.std.specs.List.{slice_split, onto_first, slice_get, filter}
use Rattle.std.specs.Char.{digit_value}
use Rattle.text.specs.Text.{word_length, word_at, spaces, digit_of, digit_in, all_digits, value_from, numeral, is_hex, number_of, argument_of, before, numbers_from, arguments_of, word_count}

-- ---- Words

-- the part of a number; none past the last
abbrev part : ℕ → List (List ℕ) → List ℕ
part k parts = unwrap_or (slice_get parts k) []

no_word : (k : ℕ) → word_at k [] ≡ []
unfolding word_at word_length
no_word zero = refl
no_word (suc k) = no_word k

drop_more : (n b : ℕ) (s : List ℕ) → drop (suc n + 1) (b ∷ s) ≡ drop (n + 1) s
drop_more n b s = rw (add-one, add-one)

word_onto : (k b : ℕ) (s : List ℕ) (parts : List (List ℕ)) → ((j : ℕ) → part j parts ≡ word_at j s) → eqb b 32 ≡ false → part k (onto_first b parts) ≡ word_at k (b ∷ s)
unfolding word_at word_length
word_onto zero b s [] h e = rw e (ap (λ (w : List ℕ). b ∷ w) (h 0))
word_onto (suc k) b s [] h e = rw (e, drop_more (word_length s) b s) (h (suc k))
word_onto zero b s (p ∷ parts) h e = rw e (ap (λ (w : List ℕ). b ∷ w) (h 0))
word_onto (suc k) b s (p ∷ parts) h e = rw (e, drop_more (word_length s) b s) (h (suc k))

space_part : (k b : ℕ) (s : List ℕ) (t : Bool) → eqb b 32 ≡ t → ((j : ℕ) → part j (slice_split (λ b. eqb b 32) s) ≡ word_at j s) → part k (slice_split (λ b. eqb b 32) (b ∷ s)) ≡ word_at k (b ∷ s)
unfolding word_at word_length
space_part zero b s true e h = rw e refl
space_part (suc k) b s true e h = rw e (h k)
space_part k b s false e h = rw e (word_onto k b s (slice_split (λ b. eqb b 32) s) h e)

pub word_part : (s : List ℕ) (k : ℕ) → part k (slice_split (λ b. eqb b 32) s) ≡ word_at k s
word_part [] zero = sym (no_word 0)
word_part [] (suc k) = sym (no_word (suc k))
word_part (b ∷ s) k = space_part k b s (eqb b 32) refl (word_part s)

spaces_on : (b : ℕ) (s : List ℕ) (t : Bool) → eqb b 32 ≡ t → spaces s ≡ length (filter (λ b. eqb b 32) s) → spaces (b ∷ s) ≡ length (filter (λ b. eqb b 32) (b ∷ s))
unfolding spaces
spaces_on b s true e h = rw e (ap suc h)
spaces_on b s false e h = rw e h

pub spaces_are : (s : List ℕ) → spaces s ≡ length (filter (λ b. eqb b 32) s)
unfolding spaces
spaces_are [] = refl
spaces_are (b ∷ s) = spaces_on b s (eqb b 32) refl (spaces_are s)

-- what an iterator gave as its part of a number, or nothing
pub part_given : (r : Option (Bor (List ℕ))) (w : Bor (List ℕ)) → UnwrapsOrElse r (λ (x : Bor (List ℕ)). x.now ≡ []) w → w.now ≡ unwrap_or (option_map (λ (x : Bor (List ℕ)). x.now) r) []
part_given None w h = h
part_given (Some x) w h = ap (λ (y : Bor (List ℕ)). y.now) h

-- ---- Numbers

pub digit_is : (b : ℕ) → digit_value b < 16 → digit_value b ≡ digit_of b
unfolding digit_of
digit_is b h = grind arith

digit_is_none : (b : ℕ) → 16 ≤ digit_value b → 16 ≤ digit_of b
unfolding digit_of
digit_is_none b h = grind arith

-- the test of a digit by its value among 36
module _ (base b : ℕ) (h : base ≤ 16) where
  at_base : (digit_value b < base → ⊥) → base ≤ digit_of b
  at_base n = elim (cases_lt (digit_value b) 16) [ inl l ↦ omega (arith, digit_is b l, n) | inr g ↦ omega (arith, digit_is_none b g) ]

  below_base : digit_value b < base → digit_of b < base
  below_base l = omega (arith, digit_is b (omega arith))

  pub digit_given : (r : Option ℕ) → SomeIff r (digit_value b < base) (digit_value b) → r ≡ digit_in base b
  unfolding digit_in
  digit_given None n = rw (le-ltb (digit_of b) base (at_base n)) refl
  digit_given (Some v) e = rw (lt-ltb (digit_of b) base (below_base e.0)) (ap Some (e.1 ∙ digit_is b (omega (arith, e.0))))

  pub no_digit_given : (r : Option ℕ) → r ≡ None → SomeIff r (digit_value b < base) (digit_value b) → base ≤ digit_of b
  no_digit_given r e k = at_base (rw e at k)

  pub a_digit_given : (r : Option ℕ) (d : ℕ) → r ≡ Some d → SomeIff r (digit_value b < base) (digit_value b) → (digit_of b < base) × (d ≡ digit_of b)
  a_digit_given r d e k = let j = rw e at k in (below_base j.0, j.1 ∙ digit_is b (omega (arith, j.0)))

-- more digits make no less
pub value_grows : (base v : ℕ) (s : List ℕ) → 0 < base → v ≤ value_from base v s
unfolding value_from
value_grows base v [] h = omega arith
value_grows base v (b ∷ s) h =
    omega (arith, mul-le-mul_left v h, value_grows base (v * base + digit_of b) s h)

module _ (base v i : ℕ) (s : List ℕ) (h : i < length s) where
  pub value_next : value_from base v (drop i s) ≡ value_from base (v * base + digit_of (get_or s i 0)) (drop (i + 1) s)
  unfolding value_from
  value_next = rw (add-one, drop-cons s i 0 h)

  pub digits_next : digit_of (get_or s i 0) < base → all_digits base (drop i s) ≡ all_digits base (drop (i + 1) s)
  unfolding all_digits
  digits_next l = rw (add-one, drop-cons s i 0 h, lt-ltb (digit_of (get_or s i 0)) base l)

  pub no_digit : base ≤ digit_of (get_or s i 0) → all_digits base (drop i s) ≡ false
  unfolding all_digits
  no_digit l = rw (drop-cons s i 0 h, le-ltb (digit_of (get_or s i 0)) base l)

  -- with its next digit a number is too large
  pub value_past : 0 < base → 2 ^ 64 ≤ v * base + digit_of (get_or s i 0) → 2 ^ 64 ≤ value_from base v (drop i s)
  value_past p l = omega (arith, value_next, value_grows base (v * base + digit_of (get_or s i 0)) (drop (i + 1) s) p)

and_false : (a : Bool) → (a && false) ≡ false
and_false true = refl
and_false false = refl

and_true : (a : Bool) → (a && true) ≡ a
and_true true = refl
and_true false = refl

pub not_digits : (base : ℕ) (s : List ℕ) → all_digits base s ≡ false → None ≡ numeral base s
unfolding numeral
not_digits base s e = rw e

pub too_large : (base : ℕ) (s : List ℕ) → 2 ^ 64 ≤ value_from base 0 s → None ≡ numeral base s
unfolding numeral
too_large base s h = rw (le-ltb (value_from base 0 s) (2 ^ 64) h, and_false)

pub is_number : (base v : ℕ) (s : List ℕ) → all_digits base s ≡ true → value_from base 0 s ≡ v → v < 2 ^ 64 → Some v ≡ numeral base s
unfolding numeral
is_number base v s e f h = rw (e, f, lt-ltb v (2 ^ 64) h)

module _ (base v i : ℕ) (s : List ℕ) (h : length s ≤ i) where
  pub value_ends : value_from base v (drop i s) ≡ v
  unfolding value_from
  value_ends = rw (drop_of_length-le s h)

  pub digits_end : all_digits base (drop i s) ≡ true
  unfolding all_digits
  digits_end = rw (drop_of_length-le s h)

-- ---- 0x

no_less : (a b : ℕ) → a < b → b ≤ a → ⊥
no_less a b h k = omega arith

-- what `strip_prefix` tests, of a list that has room behind it
prefix_is : (s : List ℕ) → 2 < length s → pointwise eqb (take 2 s) (48 ∷ 120 ∷ []) ≡ is_hex s
unfolding is_hex
prefix_is [] h = elim (no_less 2 0 h (omega arith)) [ ]
prefix_is (a ∷ []) h = elim (no_less 2 1 h (omega arith)) [ ]
prefix_is (a ∷ b ∷ s) h = rw (lt-ltb 2 (length (a ∷ b ∷ s)) h, and_true (eqb b 120))

pub hex_number : (s rest : List ℕ) → (length s ≡ 0 → ⊥) → (length rest ≡ 0 → ⊥) → pointwise eqb (take 2 s) (48 ∷ 120 ∷ []) ≡ true → rest ≡ drop 2 s → length rest + 2 ≡ length s → numeral 16 rest ≡ number_of s
unfolding number_of
hex_number s rest n m p r l = simp (ne_eqb _ _ n, ← prefix_is s (omega (arith, l, m)), p, r)

pub short_number : (s : List ℕ) → (length s ≡ 0 → ⊥) → length s ≤ 2 → numeral 10 s ≡ number_of s
unfolding number_of is_hex
short_number s n l = simp (ne_eqb _ _ n, le-ltb 2 (length s) l)

decimal_by : (s : List ℕ) (t : Bool) → ltb 2 (length s) ≡ t → (length s ≡ 0 → ⊥) → pointwise eqb (take 2 s) (48 ∷ 120 ∷ []) ≡ false → numeral 10 s ≡ number_of s
unfolding number_of
decimal_by s true e n p = simp (ne_eqb _ _ n, ← prefix_is s (ltb-true 2 (length s) e), p)
decimal_by s false e n p = short_number s n (ltb-false 2 (length s) e)

pub decimal_number : (s : List ℕ) → (length s ≡ 0 → ⊥) → pointwise eqb (take 2 s) (48 ∷ 120 ∷ []) ≡ false → numeral 10 s ≡ number_of s
decimal_number s n p = decimal_by s (ltb 2 (length s)) refl n p

pub no_number : (s : List ℕ) → length s ≡ 0 → None ≡ number_of s
unfolding number_of
no_number s e = simp (eq-eqb _ _ e)

-- ---- The numbers of a line

before_some : (v : ℕ) (o : Option (List ℕ)) → before (Some v) o ≡ option_map (λ (rest : List ℕ). v ∷ rest) o
before_some v None = refl
before_some v (Some rest) = refl

-- some numbers before others
onto : List ℕ → Option (List ℕ) → Option (List ℕ)
onto xs o = option_map (λ (rest : List ℕ). xs ++ rest) o

onto_more : (xs : List ℕ) (v : ℕ) (o : Option (List ℕ)) → onto xs (before (Some v) o) ≡ onto (xs ++ v ∷ []) o
unfolding onto
onto_more xs v None = refl
onto_more xs v (Some rest) = ap Some (sym (append_assoc xs (v ∷ []) rest))

onto_all : (xs : List ℕ) → onto xs (Some []) ≡ Some xs
unfolding onto
onto_all xs = ap Some (append-nil xs)

module _ (n i : ℕ) (xs s : List ℕ) (e : numbers_from 1 n s ≡ option_map (λ (rest : List ℕ). xs ++ rest) (numbers_from (i + 1) (n - i) s)) where
  pub numbers_stop : i < n → None ≡ argument_of (i + 1) s → numbers_from 1 n s ≡ None
  unfolding numbers_from
  numbers_stop l h =
      let k : n - i ≡ suc (n - (i + 1)) = omega arith in
      e ∙ rw (k, ← h) refl

  pub numbers_go : (v : ℕ) (ys : List ℕ) → i < n → Some v ≡ argument_of (i + 1) s → ys ≡ xs ++ v ∷ [] → numbers_from 1 n s ≡ option_map (λ (rest : List ℕ). ys ++ rest) (numbers_from (i + 1 + 1) (n - (i + 1)) s)
  unfolding numbers_from onto
  numbers_go v ys l h y =
      let k : n - i ≡ suc (n - (i + 1)) = omega arith in
      e ∙ rw (y, k, ← h, add-one (i + 1)) (onto_more xs v (numbers_from (suc (i + 1)) (n - (i + 1)) s))

  pub numbers_end : n ≤ i → numbers_from 1 n s ≡ Some xs
  unfolding numbers_from onto
  numbers_end l =
      let k : n - i ≡ 0 = omega arith in
      e ∙ rw k (onto_all xs)

module _ (n c : ℕ) (s : List ℕ) (h : c ≡ word_count s) where
  pub other_count : (c - 1 ≡ n → ⊥) → None ≡ arguments_of n s
  unfolding arguments_of word_count
  other_count d = rw (ne_eqb (word_count s) (n + 1) (λ e. d (omega (arith, h, e)))) refl

  pub all_numbers : c - 1 ≡ n → 1 ≤ c → (r : Option (List ℕ)) → numbers_from 1 n s ≡ r → r ≡ arguments_of n s
  unfolding arguments_of
  all_numbers e l r q = rw (eq-eqb (word_count s) (n + 1) (omega (arith, h))) (sym q)
