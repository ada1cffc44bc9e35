-- The loop passes flows that do not match (`Skips`).
-- Assumes nothing.
use mathlib.Core.Path.{sym, ◌∙◌}
use Rattle.plain.proofs.Scanning.{skips_none, skips_more}
use borrow.Author.Rules.{rules}
use native.Mathlib.Omega.{arith}
use Rattle.plain.proofs.scan.skip.Goals as goal

pub loop-i-init : goal.loop-i-init
loop-i-init c = (search rules, skips_none)

pub loop-i-preserved : goal.loop-i-preserved
loop-i-preserved c =
    let l = c.loop-i.invariant in
    (omega arith, skips_more l.1 (omega arith) (sym c.matches.ensures ∙ c.if-matches.false))

pub returns-after-loop-i : goal.returns-after-loop-i
returns-after-loop-i c = c.loop-i.invariant.1

pub returns-then-matches : goal.returns-then-matches
returns-then-matches c = c.loop-i.invariant.1
