use Rattle.ring.proofs.Distances.{outstanding_below, advance_below}
use borrow.Author.Tests.{lt-ltb, le-ltb}
use Rattle.ring.specs.Shapes.{head_allowed}
use native.Mathlib.Omega.{arith}
use Rattle.ring.proofs.head_allowed.Goals as goal

pub overflow_add-after : goal.overflow_add-after
overflow_add-after c =
    let r = c.args.r in
    omega (arith, outstanding_below r (omega arith), advance_below r c.args.new (omega arith), c.outstanding.ensures, c.advance.ensures)

pub returns-then-new-r : goal.returns-then-new-r
unfolding head_allowed
returns-then-new-r c = simp (lt-ltb _ _ c.if-new-r.true, ← c.outstanding.ensures, ← c.advance.ensures)

pub returns : goal.returns
unfolding head_allowed
returns c = simp (le-ltb _ _ c.if-new-r.false)
