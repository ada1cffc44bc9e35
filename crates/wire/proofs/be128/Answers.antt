use Rattle.wire.proofs.Numbers.{halves}
use Rattle.rules.proofs.Bytes.{to_end}
use Rattle.rules.specs.Bytes.{le, le_at, swapped}
use lib.ListN.{length, drop, drop_of_length-le}
use lib.Seq.{get_or-drop}
use Prim.Native.Nat.{◌+◌, ◌≤◌}
use native.Mathlib.Omega.{arith}
use Rattle.wire.proofs.be128.Goals as goal

pub returns-then-s-at : goal.returns-then-s-at
unfolding le_at swapped le
returns-then-s-at c =
    let a = c.args in
    let h : length a.s.now ≤ a.at = omega arith in
    rw (drop_of_length-le a.s.now h)

pub returns : goal.returns
unfolding le_at
returns c =
    let a = c.args in
    let x = drop a.at a.s.now in
    rw (c.be.ensures, c.be-2.ensures, to_end)
    (halves 8 8 x (λ j. rw get_or-drop (c.type_inv.s (a.at + j)).fits))
