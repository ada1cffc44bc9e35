-- One pass from the last place to the first keeps, for tables 0 and 10 at once, the best of the places that were passed, and whether one of
-- them was of table 20.
-- Assumes nothing.
use mathlib.Core.Bool.{Bool, true, false, ◌||◌}
use mathlib.Core.Path.{◌≡◌, refl, ap, ◌∙◌}
use lib.Dec.{eqb}
use borrow.Author.Tests.{eqb-false}
use Rattle.rules.proofs.Cases.{not_both}
use Rattle.rules.specs.declared.FlowEntry.{FlowEntry}
use Rattle.deciding.proofs.Search.{other_table}
use Rattle.plain.proofs.Scanning.{better_passed, scan_starts, scan_on, scan_ends, lacks_starts, lacks_on}
use native.Mathlib.Omega.{arith}
use Rattle.plain.proofs.scan.first_hits.Goals as goal

or_left : (a b : Bool) → a || b ≡ false → a ≡ false
or_left true b e = not_both e
or_left false b e = refl

or_right : (a b : Bool) → a || b ≡ false → b ≡ false
or_right true b e = not_both e
or_right false b e = e

pub loop-i-init : goal.loop-i-init
loop-i-init c =
    let g = c.all-1.given in
    let l = c.min-i.ensures in
    (scan_starts (omega (arith, g)) (omega (arith, l, g)) c.none-first.ensures, scan_starts (omega (arith, g)) (omega (arith, l, g)) c.none-second.ensures, lacks_starts (omega (arith, g)) (omega (arith, l, g)))

pub loop-i-preserved-then-of-le20 : goal.loop-i-preserved-then-of-le20
loop-i-preserved-then-of-le20 c =
    let o = c.loop-i in
    let l = o.invariant in
    let n = c.flow-of.result.table in
    let t = ap (λ (f : FlowEntry). f.table) c.flow-of.ensures in (
      scan_on l.0 (omega arith) c.better-first.ensures,
      scan_on l.1 (omega arith) c.better-second.ensures,
      lacks_on l.2 (omega arith) l.0.within (λ q. (or_left o.terminates (eqb n 20) q, λ e. eqb-false n 20 (or_right o.terminates (eqb n 20) q) (t ∙ e))),
    )

pub loop-i-preserved : goal.loop-i-preserved
loop-i-preserved c =
    let l = c.loop-i.invariant in
    let t = ap (λ (f : FlowEntry). f.table) c.flow-of.ensures in (
      scan_on l.0 (omega arith) (better_passed l.0.inside (other_table _ 0 _ _ (λ q. omega (arith, t ∙ q, c.if-of-le20.false)))),
      scan_on l.1 (omega arith) (better_passed l.1.inside (other_table _ 10 _ _ (λ q. omega (arith, t ∙ q, c.if-of-le20.false)))),
      lacks_on l.2 (omega arith) l.0.within (λ q. (q, λ e. omega (arith, t ∙ e, c.if-of-le20.false))),
    )

pub returns : goal.returns
returns c =
    let l = c.loop-i.invariant in
    let z : c.loop-i.i ≡ 0 = omega arith in
    (scan_ends 0 l.0 z, scan_ends 10 l.1 z, rw z at l.2)
