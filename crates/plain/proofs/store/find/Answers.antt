-- The loop passes flows with another cookie (`Seeking`), and stops at the first that has this one, or at the end.
-- Assumes nothing.
use mathlib.Core.Path.{sym, ◌∙◌}
use Rattle.rules.specs.Rows.{entry_in}
use Rattle.plain.proofs.Standing.{begin, pass, stop, end}
use native.Mathlib.Omega.{arith}
use Rattle.plain.proofs.store.find.Goals as goal

pub loop-at-init : goal.loop-at-init
loop-at-init c = begin (omega (arith, c.all-1.given)) (omega (arith, c.min-n.ensures, c.all-1.given))

pub loop-at-preserved : goal.loop-at-preserved
unfolding entry_in
loop-at-preserved c =
    pass c.loop-at.invariant c.loop-at-test.true (λ e. c.if-k-cookie.false (c.join-k.ensures ∙ e))

pub returns-after-loop-at : goal.returns-after-loop-at
returns-after-loop-at c = (c.loop-at.invariant.size, end c.loop-at.invariant c.loop-at-test.false)

pub returns-then-k-cookie : goal.returns-then-k-cookie
unfolding entry_in
returns-then-k-cookie c =
    (c.loop-at.invariant.size, stop c.loop-at.invariant c.loop-at-test.true (sym c.join-k.ensures ∙ c.if-k-cookie.true))
