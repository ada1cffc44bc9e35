use Rattle.rules.proofs.Bytes.{le_nil, to_end}
use Rattle.rules.specs.Bytes.{le_at}
use lib.ListN.{length, drop_of_length-le}
use mathlib.Core.Path.{sym, ◌∙◌}
use Prim.Native.Nat.{◌≤◌}
use native.Mathlib.Omega.{arith}
use Rattle.wire.proofs.number_at.Goals as goal

pub returns-then-at-s : goal.returns-then-at-s
unfolding le_at
returns-then-at-s c = c.front.ensures ∙ rw to_end

pub returns-else-at-s : goal.returns-else-at-s
unfolding le_at
returns-else-at-s c =
    let a = c.args in
    let h : length a.s.now ≤ a.at = omega arith in
    rw (drop_of_length-le _ h) (sym (le_nil _))
