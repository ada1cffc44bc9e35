-- Little-endian numbers as loops read and write them, each law over the width. (What they are: proofs/Bytes.antt of rules.)
-- Assumes nothing.
use Prim.Native.Nat.{ℕ, suc, ◌+◌, ◌*◌, ◌/◌, ◌%◌, ◌-◌, ◌≤◌, ◌<◌, ◌^◌, min}
use mathlib.Core.Path.{◌≡◌, sym, ◌∙◌}
use mathlib.Core.Bool.{true}
use mathlib.Core.List.{List}
use native.Mathlib.Omega.{arith}
use native.Mathlib.Nat.{pow-succ', pow-le-pow_right, add-zero, sub-zero}
use lib.ListN.{length, get_or, drop, set, drop_of_length-le}
use lib.Seq.{drop-cons, get_or-drop}
use lib.Dec.{leb}
use borrow.Author.Tests.{leb-true, le-leb, lt-leb}
use Rattle.rules.specs.Bytes.{le, swapped, bytes_of, splice, inside}
use Rattle.rules.proofs.Cases.{by_le}
use Rattle.rules.proofs.Bytes.{le_below, le_nil, splice_cons, splice_nil}
use Rattle.rules.proofs.Address.{swapped_split, le_split}

-- ---- Reading

-- one byte more in front
le_more : (n : ℕ) (s : List ℕ) (k : ℕ) → k < length s → le (suc n) (drop k s) ≡ get_or s k 0 + 256 * le n (drop (suc k) s)
unfolding le
le_more n s k h = rw (drop-cons s k 0)

-- a number read from its last byte to its first: where that begins, a turn, that there is room for one, and the end
pub reading_starts : (m : ℕ) (s : List ℕ) (k : ℕ) → k ≡ min m (length s) → 0 ≡ le (m - k) (drop k s)
unfolding le
reading_starts m s k e =
    by_le m (length s)
    (λ h p. let z : m - k ≡ 0 = omega arith in rw z)
    (λ h p. let z : length s ≤ k = omega arith in rw (drop_of_length-le s z) (sym (le_nil (m - k))))

pub reading_goes_on : (m k j v b : ℕ) (s : List ℕ) → k ≡ suc j → k ≤ m → k ≤ length s → b ≡ get_or s j 0 → v ≡ le (m - k) (drop k s)
    → v * 256 + b ≡ le (m - j) (drop j s)
reading_goes_on m k j v b s e hm hs eb ev =
    let q : m - j ≡ suc (m - k) = omega arith in
    let t : le (suc (m - k)) (drop j s) ≡ get_or s j 0 + 256 * le (m - k) (drop (suc j) s) = le_more (m - k) s j (omega arith) in
    rw (q, t, ← e, ← ev, ← eb) (omega arith)

pub reading_fits : (m k v : ℕ) (s : List ℕ) → ((j : ℕ) → get_or s j 0 < 256) → v ≡ le (m - k) (drop k s) → m ≤ 8 → 0 < k → v < 2 ^ 56
reading_fits m k v s h ev hm hk =
    let d : m - k ≤ 7 = omega arith in
    let p : 256 ^ (m - k) ≤ 256 ^ 7 = pow-le-pow_right (omega arith) d in
    let b : le (m - k) (drop k s) < 256 ^ (m - k) = le_below (m - k) (drop k s) (λ j. rw get_or-drop (h (k + j))) in
    omega arith

pub reading_ends : (m k v : ℕ) (s : List ℕ) → v ≡ le (m - k) (drop k s) → k ≤ 0 → v ≡ le m s
reading_ends m k v s ev h =
    let q : m - k ≡ m = omega arith in
    let z : k ≡ 0 = omega arith in
    ev ∙ rw (q, z)

-- ---- The other order

-- a number turned from its lowest byte on, k bytes of it left: a turn, what is turned by then, that there is room for one byte more, and the end
pub turning_goes_on : (k j r v whole : ℕ) → 0 < k → j ≡ k - 1 → whole ≡ r * 256 ^ k + swapped k v
    → whole ≡ (r * 256 + v % 256) * 256 ^ j + swapped j (v / 256)
unfolding swapped
turning_goes_on k j r v whole h e w =
    let q : k ≡ suc j = omega arith in
    let t : whole ≡ r * (256 * 256 ^ j) + (v % 256 * 256 ^ j + swapped j (v / 256)) = rw (q, pow-succ') at w in
    omega arith

pub turning_grows : (d r v : ℕ) → r < 256 ^ d → r * 256 + v % 256 < 256 ^ (d + 1)
turning_grows d r v b =
    let q : d + 1 ≡ suc d = omega arith in
    rw (q, pow-succ') (omega arith)

pub turning_fits : (n d r : ℕ) → n ≤ 8 → d < n → r < 256 ^ d → r < 2 ^ 56
turning_fits n d r h l b =
    let few : d ≤ 7 = omega arith in
    let p : 256 ^ d ≤ 256 ^ 7 = pow-le-pow_right (omega arith) few in
    omega arith

pub turning_ends : (k r v whole : ℕ) → k ≤ 0 → whole ≡ r * 256 ^ k + swapped k v → r ≡ whole
unfolding swapped
turning_ends k r v whole h w =
    let q : k ≡ 0 = omega arith in
    let t : whole ≡ r * 1 + 0 = rw q at w in
    omega arith

-- two parts, over any widths
pub halves : (n m : ℕ) (s : List ℕ) → ((j : ℕ) → get_or s j 0 < 256)
    → swapped n (le n s) * 256 ^ m + swapped m (le m (drop n s)) ≡ swapped (n + m) (le (n + m) s)
halves n m s h = sym (rw (le_split n m s) (swapped_split n m (le n s) (le m (drop n s)) (le_below n s h)))

-- ---- Writing

-- a number written from its first byte to its last: a turn, and the end
pub writing_goes_on : (i e v : ℕ) (s whole : List ℕ) → i < e → i < length s → splice i (bytes_of (e - i) v) s ≡ whole
    → splice (i + 1) (bytes_of (e - (i + 1)) (v / 256)) (set s i (v % 256)) ≡ whole
unfolding bytes_of
writing_goes_on i e v s whole h k w =
    let q : e - i ≡ suc (e - suc i) = omega arith in
    let a : i + 1 ≡ suc i = omega arith in
    rw (a, ← splice_cons i (v % 256) (bytes_of (e - suc i) (v / 256)) s k) (rw q at w)

pub writing_ends : (i e v : ℕ) (s whole : List ℕ) → e ≤ i → splice i (bytes_of (e - i) v) s ≡ whole → s ≡ whole
unfolding bytes_of
writing_ends i e v s whole h w =
    let q : e - i ≡ 0 = omega arith in
    sym (splice_nil i s) ∙ rw q at w

-- ---- Inside

pub inside_true : (at n : ℕ) (s : List ℕ) → inside at n s ≡ true → at + n ≤ length s
unfolding inside
inside_true at n s e = leb-true _ _ e
