-- Distances and slots modulo a variable size: case lemmas that open `%`, and from there on `omega`.
-- Assumes nothing.
use Prim.Native.Nat.{ℕ, zero, suc, ◌+◌, ◌-◌, ◌%◌, ◌≤◌, ◌<◌}
use native.Mathlib.Nat.{mod-eq_of_lt, mod-lt, mod_self, zero-mod, sub-zero, add-mod_right, mod-add-mod, zero-add, add-zero, suc-add}
use native.Mathlib.Omega.{arith}
use mathlib.Core.Path.{◌≡◌, refl, ap}
use mathlib.Core.List.{◌++◌}
use lib.ListN.{length}
use borrow.Author.Tests.{lt-ltb, le-ltb}
use Rattle.rules.specs.Ring.{distance, next_slot}
use Rattle.rules.proofs.Cases.{by_lt, by_le}
use Rattle.history.specs.RingHistory.{slots}

-- the one way in: on which side two slots stand, and their distance without `%`
pub apart : {G : Type 0} (s a b : ℕ) → a < s → b < s
    → (a ≤ b → distance s a b ≡ b - a → G) → (b < a → distance s a b ≡ b + s - a → G) → G
unfolding distance
apart s a b ha hb up down =
    by_le a b
    (λ h p. let hd : b - a < s = omega arith in let e : b + s - a ≡ b - a + s = omega arith in
    up h (rw (mod-eq_of_lt hb, mod-eq_of_lt ha, e, add-mod_right, mod-eq_of_lt hd)))
    (λ h p. let hd : b + s - a < s = omega arith in down h (rw (mod-eq_of_lt hb, mod-eq_of_lt ha, mod-eq_of_lt hd)))

-- the slot after one, without `%`
pub next_slot_lem : {G : Type 0} (s a : ℕ) → a < s → (a + 1 < s → (a + 1) % s ≡ a + 1 → G) → (a + 1 ≡ s → (a + 1) % s ≡ 0 → G) → G
next_slot_lem s a h inner last =
    by_lt (a + 1) s
    (λ k p. inner k (mod-eq_of_lt k))
    (λ k p. let e : a + 1 ≡ s = omega arith in last e (rw (e, mod_self)))

-- the rules' next slot is the remainder
pub next_is : (s a : ℕ) → a < s → next_slot s a ≡ (a + 1) % s
unfolding next_slot
next_is s a h = next_slot_lem s a h (λ k e. simp (lt-ltb _ _ k, e)) (λ k e. simp (le-ltb (a + 1) s (omega arith), e))

pub next_in : (s a : ℕ) → a < s → (a + 1) % s < s
next_in s a h = mod-lt (a + 1) (omega arith)

-- also where the size is 0
pub distance_start : (s : ℕ) → distance s 0 0 ≡ 0
unfolding distance
distance_start s = rw (zero-mod, zero-add, sub-zero, mod_self)

-- an index that is at most size - 1 is below the size, or both are 0
pub distance_self : (s a : ℕ) → a ≤ s - 1 → distance s a a ≡ 0
distance_self s a h =
    by_lt 0 s
    (λ k p. apart s a a (omega arith) (omega arith) (λ u e. omega arith) (λ u e. absurd (omega arith)))
    (λ k p. let e : a ≡ 0 = omega arith in rw (e, distance_start))

pub distance_zero : (s a b : ℕ) → a ≤ s - 1 → b ≤ s - 1 → distance s a b ≡ 0 → b ≡ a
distance_zero s a b ha hb z =
    by_lt 0 s (λ k p. apart s a b (omega arith) (omega arith) (λ u e. omega arith) (λ u e. omega arith)) (λ k p. omega arith)

-- a second advance on top of the first, where both together are less than a turn
pub distance_add : (s a b c : ℕ) → a < s → b < s → c < s → distance s a b + distance s b c ≤ s - 1
    → distance s a c ≡ distance s a b + distance s b c
distance_add s a b c ha hb hc h =
    apart s a b ha hb
    (λ u e. apart s b c hb hc (λ v f. apart s a c ha hc (λ w g. omega arith) (λ w g. omega arith)) (λ v f. apart s a c ha hc (λ w g. omega arith) (λ w g. omega arith)))
    (λ u e. apart s b c hb hc (λ v f. apart s a c ha hc (λ w g. omega arith) (λ w g. omega arith)) (λ v f. apart s a c ha hc (λ w g. omega arith) (λ w g. omega arith)))

-- one step nearer
pub distance_next : (s a b : ℕ) → a < s → b < s → (b ≡ a → ⊥) → distance s a b ≡ suc (distance s ((a + 1) % s) b)
distance_next s a b ha hb ne =
    let n : (a + 1) % s < s = next_in s a ha in
    next_slot_lem s a ha
    (λ k m. apart s a b ha hb
    (λ u e. apart s ((a + 1) % s) b n hb (λ v f. omega (arith, ne)) (λ v f. omega (arith, ne)))
    (λ u e. apart s ((a + 1) % s) b n hb (λ v f. omega (arith, ne)) (λ v f. omega (arith, ne))))
    (λ k m. apart s a b ha hb
    (λ u e. apart s ((a + 1) % s) b n hb (λ v f. omega (arith, ne)) (λ v f. omega (arith, ne)))
    (λ u e. apart s ((a + 1) % s) b n hb (λ v f. omega (arith, ne)) (λ v f. omega (arith, ne))))

-- an advance lands where it was to
pub lands : (s a b : ℕ) → a < s → b < s → (a + distance s a b) % s ≡ b
lands s a b ha hb =
    apart s a b ha hb
    (λ u d. let e : a + distance s a b ≡ b = omega arith in rw (e, mod-eq_of_lt hb))
    (λ u d. let e : a + distance s a b ≡ b + s = omega arith in rw (e, add-mod_right, mod-eq_of_lt hb))

pub slots_length : (s a n : ℕ) → length (slots s a n) ≡ n
unfolding slots
slots_length s a zero = refl
slots_length s a (suc n) = ap suc (slots_length s ((a + 1) % s) n)

pub slots_add : (s a m n : ℕ) → a < s → slots s a (m + n) ≡ slots s a m ++ slots s ((a + m) % s) n
unfolding slots
slots_add s a zero n h = rw (zero-add, add-zero, mod-eq_of_lt h)
slots_add s a (suc m) n h =
    let e : a + 1 + m ≡ a + suc m = omega arith in
    rw (suc-add, slots_add s ((a + 1) % s) m n (next_in s a h), mod-add-mod, e)
