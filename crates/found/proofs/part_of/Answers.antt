-- A part that would pass the end is cut there: by where it starts, and then by where it ends.
-- Assumes nothing.
use Rattle.rules.proofs.Bytes.{to_end}
use Rattle.rules.specs.Bytes.{part}
use lib.Seq.{take-nil, take_all}
use lib.ListN.{length, length-drop, drop, drop_of_length-le}
use mathlib.Core.Path.{◌≡◌, sym, ◌∙◌}
use Prim.Native.Nat.{◌≤◌, ◌+◌, ◌-◌}
use native.Mathlib.Omega.{arith}
use Rattle.found.proofs.part_of.Goals as goal

pub returns-then-s-at : goal.returns-then-s-at
unfolding part
returns-then-s-at c =
    let a = c.args in
    let h : length a.s.now ≤ a.at = omega arith in
    rw (drop_of_length-le _ h) (sym (take-nil a.n))

pub returns-then-s-at-2 : goal.returns-then-s-at-2
unfolding part
returns-then-s-at-2 c =
    let a = c.args in
    to_end a.s.now a.at ∙ sym (take_all a.n (drop a.at a.s.now) (rw length-drop (omega arith)))

pub returns : goal.returns
unfolding part
returns c =
    let a = c.args in
    let e : a.at + a.n - a.at ≡ a.n = omega arith in
    rw e
