-- Bytes written over a list: what is left in front of them and behind them, and two writings that are one: the second behind the
-- first, in front of it, or over its start.
-- Assumes nothing.
use Prim.Native.Nat.{ℕ, ◌+◌, ◌-◌, ◌≤◌}
use mathlib.Core.Path.{◌≡◌, refl, sym, ap, ◌∙◌}
use mathlib.Core.List.{List, ◌++◌, append_assoc}
use native.Mathlib.Omega.{arith}
use lib.ListN.{length, take, drop, length-append, length-take, length-drop}
use lib.Seq.{take_at, take-take, drop_at, drop-drop, drop-append-add, length-take-le}
use borrow.Author.Tests.{le-leb}
use Rattle.rules.specs.Bytes.{bytes_of, inside, splice}
use Rattle.wire.specs.Put.{put}

module _ (at : ℕ) (a s : List ℕ) (h : at ≤ length s) where
  -- what is in front, the bytes, and what is behind
  front : length (take at s) ≡ at
  front = length-take-le at s h

  take_front : take at (splice at a s) ≡ take at s
  unfolding splice
  take_front = take_at (take at s) _ at front

  take_through : take (at + length a) (splice at a s) ≡ take at s ++ a
  unfolding splice
  take_through =
      let e : length (take at s ++ a) ≡ at + length a = length-append (take at s) a ∙ ap (λ (n : ℕ). n + length a) front in
      rw (← append_assoc (take at s) a (drop (at + length a) s)) (take_at (take at s ++ a) _ (at + length a) e)

  drop_front : drop at (splice at a s) ≡ a ++ drop (at + length a) s
  unfolding splice
  drop_front = drop_at (take at s) _ at front

  drop_behind : (n : ℕ) → drop (at + length a + n) (splice at a s) ≡ drop (at + length a + n) s
  drop_behind n =
      let e : at + length a + n ≡ at + (length a + n) = omega arith in
      rw (e, ← drop-drop (length a + n) at (splice at a s), drop_front, drop-append-add a _ n, drop-drop n (at + length a) s) (rw e)

  pub length_splice : at + length a ≤ length s → length (splice at a s) ≡ length s
  unfolding splice
  length_splice k = simp (length-append, length-take, length-drop) (omega arith)

-- the three parts of what a writing gives
parts : (at : ℕ) (a s : List ℕ) → splice at a s ≡ take at s ++ (a ++ drop (at + length a) s)
unfolding splice
parts at a s = refl

module _ (at : ℕ) (a b s : List ℕ) where
  end : at + length (a ++ b) ≡ at + length a + length b
  end = omega (arith, length-append a b)

  -- the second right behind the first, which has k bytes
  pub splice_behind : (k : ℕ) → length a ≡ k → at ≤ length s → splice (at + k) b (splice at a s) ≡ splice at (a ++ b) s
  splice_behind k e h =
      rw (← e)
      (parts (at + length a) b (splice at a s)
      ∙ rw (take_through at a s h, drop_behind at a s h (length b), parts at (a ++ b) s, end) (simp append_assoc))

  -- the second, of k bytes, in front of the first
  pub splice_front : (k : ℕ) → length a ≡ k → at + k ≤ length s → splice at a (splice (at + k) b s) ≡ splice at (a ++ b) s
  splice_front k e l =
      let h : at + length a ≤ length s = omega arith in
      let t : take at (splice (at + length a) b s) ≡ take at s =
      sym (take-take at (at + length a) (splice (at + length a) b s) (omega arith))
      ∙ rw (take_front (at + length a) b s h) (take-take at (at + length a) s (omega arith)) in
      rw (← e)
      (parts at a (splice (at + length a) b s) ∙ rw (t, drop_front (at + length a) b s h, parts at (a ++ b) s, end) (simp append_assoc))

  -- the second over the first, which is no longer
  splice_over : at ≤ length s → length a ≤ length b → splice at b (splice at a s) ≡ splice at b s
  splice_over h k =
      let e : at + length b ≡ at + length a + (length b - length a) = omega arith in
      parts at b (splice at a s) ∙ rw (take_front at a s h, e, drop_behind at a s h (length b - length a)) (rw (← e) (sym (parts at b s)))

-- the second over the start of the first
pub splice_start : (at : ℕ) (a b c s : List ℕ) → at + length a ≤ length s → length a ≡ length b
    → splice at b (splice at (a ++ c) s) ≡ splice at (b ++ c) s
splice_start at a b c s h e =
    rw (
      ← splice_behind at a c s (length b) e (omega arith),
      splice_front at b c (splice at a s) (length b) refl (rw (length_splice at a s (omega arith) h) (omega arith)),
    )
    (splice_over at a (b ++ c) s (omega arith) (rw length-append (omega arith)))

-- ---- Numbers

pub put_is : (at n v : ℕ) (s : List ℕ) → at + n ≤ length s → put at n v s ≡ splice at (bytes_of n v) s
unfolding put inside
put_is at n v s h = rw (le-leb _ _ h)

-- a number put behind bytes
pub put_behind : (at k n v : ℕ) (a s : List ℕ) → length a ≡ k → at + k + n ≤ length s
    → put (at + k) n v (splice at a s) ≡ splice at (a ++ bytes_of n v) s
put_behind at k n v a s e h =
    put_is (at + k) n v (splice at a s) (rw (length_splice at a s (omega arith) (omega arith)) h)
    ∙ splice_behind at a (bytes_of n v) s k e (omega arith)
