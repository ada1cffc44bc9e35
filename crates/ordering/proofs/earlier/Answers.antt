-- Where no slot is left, one less is none too.
-- Assumes nothing.
use Prim.Native.Nat.{ℕ}
use mathlib.Core.Bool.{Bool, true, false, ◌&&◌}
use mathlib.Core.Path.{◌≡◌, refl}
use native.Mathlib.Omega.{arith}
use lib.Dec.{ltb}
use borrow.Author.Tests.{ltb-true, ltb-false}
use Rattle.rules.specs.Engine.{earlier}
use Rattle.rules.proofs.Cases.{and_left, and_right}
use Rattle.ordering.proofs.earlier.Goals as goal

stays : (moves : Bool) (n : ℕ) → moves && ltb 0 n ≡ false → n ≡ earlier moves n
unfolding earlier
stays true n h = omega (arith, ltb-false 0 n h)
stays false n h = refl

pub overflow_sub-result : goal.overflow_sub-result
overflow_sub-result c =
    let a = c.args in
    omega (arith, ltb-true 0 a.n (and_right a.moves (ltb 0 a.n) c.if-moves-n.true))

pub returns-then-moves-n : goal.returns-then-moves-n
unfolding earlier
returns-then-moves-n c =
    let a = c.args in
    simp (and_left a.moves (ltb 0 a.n) c.if-moves-n.true)

pub returns-else-moves-n : goal.returns-else-moves-n
returns-else-moves-n c =
    let a = c.args in
    stays a.moves a.n c.if-moves-n.false
