-- Little-endian numbers over any width, and a list written over a slice.
-- Assumes nothing.
use Prim.Native.Nat.{ℕ, zero, suc, ◌+◌, ◌/◌, ◌%◌, ◌-◌, ◌≤◌, ◌<◌, ◌^◌}
use mathlib.Core.Path.{◌≡◌, refl, ap, ◌∙◌}
use mathlib.Core.List.{List, [], ◌∷◌, ◌++◌, append_assoc}
use native.Mathlib.Omega.{arith}
use native.Mathlib.Nat.{pow-suc, add-zero, one-le-pow, mod-eq_of_lt}
use lib.Arith.{mod-mul}
use lib.ListN.{length, length-drop, length-append, length-take, get_or, take, drop, set, length-set, take-append-drop}
use lib.Seq.{take_all, get_or-drop, take-suc-set, drop-set-lt, take-append_seam}
use lib.Dec.{lit<}
use Rattle.rules.specs.Bytes.{le, le_at, bytes_of, splice}

-- n bytes hold a number below 256 ^ n
pub le_below : (n : ℕ) (s : List ℕ) → ((j : ℕ) → get_or s j 0 < 256) → le n s < 256 ^ n
unfolding le
le_below zero s h = omega arith
le_below (suc n) [] h = let r = le_below n [] h in rw pow-suc (omega arith)
le_below (suc n) (b ∷ s) h = let r = le_below n s (λ j. h (suc j)) in rw pow-suc (omega (arith, h 0))

pub le_at_below : (n : ℕ) (s : List ℕ) (at : ℕ) → ((j : ℕ) → get_or s j 0 < 256) → le_at n s at < 256 ^ n
unfolding le_at
le_at_below n s at h = le_below n (drop at s) (λ j. rw get_or-drop (h (at + j)))

-- no bytes read 0
pub le_nil : (n : ℕ) → le n [] ≡ 0
unfolding le
le_nil zero = refl
le_nil (suc n) = refl

-- a number is read from its own bytes, whatever follows them
pub le_front : (n : ℕ) (s t : List ℕ) → length s ≡ n → le n (s ++ t) ≡ le n s
unfolding le
le_front zero s t e = refl
le_front (suc n) [] t e = absurd (omega arith)
le_front (suc n) (b ∷ s) t e = let q : length s ≡ n = omega arith in rw (le_front n s t q)

pub length_bytes_of : (n v : ℕ) → length (bytes_of n v) ≡ n
unfolding bytes_of
length_bytes_of zero v = refl
length_bytes_of (suc n) v = ap suc (length_bytes_of n (v / 256))

pub bytes_of_below : (n v j : ℕ) → get_or (bytes_of n v) j 0 < 256
unfolding bytes_of
bytes_of_below zero v j = omega arith
bytes_of_below (suc n) v zero = omega arith
bytes_of_below (suc n) v (suc j) = bytes_of_below n (v / 256) j

-- what is written reads back, modulo the width
pub le_bytes_of : (n v : ℕ) → le n (bytes_of n v) ≡ v % 256 ^ n
unfolding le bytes_of
le_bytes_of zero v = omega arith
le_bytes_of (suc n) v = rw (le_bytes_of n (v / 256), pow-suc, mod-mul v (one-le-pow n 256 (lit< tt)) (lit< tt)) (omega arith)

-- a 16-bit number at the front of a list
pub two_front : (v : ℕ) (t : List ℕ) → v < 65536 → le 2 (bytes_of 2 v ++ t) ≡ v
two_front v t h =
    let e : v % 256 ^ 2 ≡ v = mod-eq_of_lt h in
    le_front 2 (bytes_of 2 v) t (length_bytes_of 2 v) ∙ (le_bytes_of 2 v ∙ e)

-- ---- A list written over a slice

-- element by element
pub splice_cons : (at b : ℕ) (new s : List ℕ) → at < length s → splice at (b ∷ new) s ≡ splice (suc at) new (set s at b)
unfolding splice
splice_cons at b new s h =
    let e : at + suc (length new) ≡ suc at + length new = omega arith in
    let d : drop (suc at + length new) (set s at b) ≡ drop (suc at + length new) s = drop-set-lt (suc at + length new) s at b (omega arith) in
    rw (d, take-suc-set s at b h, e, append_assoc)

pub splice_nil : (at : ℕ) (s : List ℕ) → splice at [] s ≡ s
unfolding splice
splice_nil at s = rw add-zero (take-append-drop at s)

-- in two parts, the second behind the first
pub splice_append : (at : ℕ) (a b s : List ℕ) → at + length a ≤ length s → splice at (a ++ b) s ≡ splice (at + length a) b (splice at a s)
splice_append at [] b s h = rw (add-zero, splice_nil at s)
splice_append at (x ∷ a) b s h =
    let e : at + suc (length a) ≡ suc at + length a = omega arith in
    rw (splice_cons at x (a ++ b) s (omega arith), splice_cons at x a s (omega arith), e)
    (splice_append (suc at) a b (set s at x) (rw length-set (omega arith)))

-- inside, the length stays
pub length_splice : (at : ℕ) (new s : List ℕ) → at + length new ≤ length s → length (splice at new s) ≡ length s
unfolding splice
length_splice at new s h = simp (length-append, length-take, length-drop) (omega arith)

-- what was written at the start
pub take_splice : (new s : List ℕ) → take (length new) (splice 0 new s) ≡ new
unfolding splice
take_splice new s = take-append_seam new _

-- a part that goes to the end
pub to_end : (s : List ℕ) (at : ℕ) → take (length s - at) (drop at s) ≡ drop at s
to_end s at = take_all (length s - at) (drop at s) (rw length-drop (omega arith))

-- bytes that are put over a list make it no shorter
pub splice_no_shorter : (at : ℕ) (new s : List ℕ) → length s ≤ length (splice at new s)
unfolding splice
splice_no_shorter at new s =
    omega
    (arith, length-append (take at s) (new ++ drop (at + length new) s), length-append new (drop (at + length new) s), length-take at s, length-drop (at + length new) s)
