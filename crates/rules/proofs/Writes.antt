-- A byte that no write of a list touches is as it was: of one write by where the byte stands, of a list one write after another.
-- Assumes nothing.
use Prim.Native.Nat.{ℕ, ◌+◌, ◌-◌, ◌≤◌, ◌<◌}
use mathlib.Core.Bool.{false, ◌&&◌}
use mathlib.Core.Path.{◌≡◌, refl, ap, ◌∙◌}
use mathlib.Core.List.{List, [], ◌∷◌, ◌++◌}
use native.Mathlib.Omega.{arith}
use lib.ListN.{length, get_or, take, drop, length-take, get_or-append}
use lib.Seq.{get_or-append-add, get_or-drop, get_or-take}
use lib.Dec.{ltb, leb}
use Rattle.rules.specs.Bytes.{splice}
use Rattle.rules.specs.Writes.{Write, memory_after, touches}
use Rattle.rules.proofs.Bytes.{splice_no_shorter}
use Rattle.rules.proofs.Cases.{by_lt, by_le, true_or_false, or_left, or_right}

module _ (at i : ℕ) (new s : List ℕ) (h : i < length s) where
  -- a byte in front of what is written
  before : i < at → get_or (splice at new s) i 0 ≡ get_or s i 0
  unfolding splice
  before k = get_or-append (take at s) (new ++ drop (at + length new) s) 0 i (omega (arith, length-take at s)) ∙ get_or-take at s i 0 k

  -- a byte behind it
  behind : at + length new ≤ i → get_or (splice at new s) i 0 ≡ get_or s i 0
  unfolding splice
  behind k =
      let rest = drop (at + length new) s in
      let j = i - (at + length new) in
      let e : i ≡ length (take at s) + (length new + j) = omega (arith, length-take at s) in
      let f : at + length new + j ≡ i = omega arith in
      ap (λ (n : ℕ). get_or (take at s ++ (new ++ rest)) n 0) e
      ∙ (get_or-append-add (take at s) (new ++ rest) (length new + j) 0
      ∙ (get_or-append-add new rest j 0
      ∙ (get_or-drop (at + length new) s j 0 ∙ ap (λ (n : ℕ). get_or s n 0) f)))

  -- a byte that it does not touch
  one : leb at i && ltb i (at + length new) ≡ false → get_or (splice at new s) i 0 ≡ get_or s i 0
  one e =
      by_le at i
      (λ u p. by_lt i (at + length new) (λ v q. true_or_false (leb at i && ltb i (at + length new)) (simp (p, q)) e) (λ v q. behind v))
      (λ u p. before u)

-- EVERY BYTE OUTSIDE THE WRITES IS AS IT WAS
pub untouched : (ws : List Write) (memory : List ℕ) (i : ℕ) → i < length memory → touches i ws ≡ false → get_or (memory_after ws memory) i 0 ≡ get_or memory i 0
unfolding memory_after touches
untouched [] memory i h e = refl
untouched (w ∷ ws) memory i h e =
    let here = leb w.at i && ltb i (w.at + length w.bytes) in
    untouched ws (splice w.at w.bytes memory) i (omega (arith, splice_no_shorter w.at w.bytes memory)) (or_right here (touches i ws) e)
    ∙ one w.at i w.bytes memory h (or_left here (touches i ws) e)
