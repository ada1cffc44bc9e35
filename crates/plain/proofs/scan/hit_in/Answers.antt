-- The scan keeps the best of the places that were passed (`Scanned`), and skips what does not match.
-- Assumes nothing.
use Rattle.plain.proofs.Scanning.{scan_starts, scan_on, scan_ends}
use native.Mathlib.Omega.{arith}
use Rattle.plain.proofs.scan.hit_in.Goals as goal

pub loop-i-init : goal.loop-i-init
loop-i-init c =
    let g = c.all-1.given in
    scan_starts (omega (arith, g)) (omega (arith, c.min-i.ensures, g)) c.none-hit.ensures

pub returns-then-i-eq0 : goal.returns-then-i-eq0
returns-then-i-eq0 c = scan_ends _ (c.skip-i.ensures.is _ _ _ c.loop-i.invariant) (omega arith)

pub better-hit-requires : goal.better-hit-requires
better-hit-requires c =
    let s = c.skip-i.ensures.is _ _ _ c.loop-i.invariant in
    (omega (arith, s.few), s.inside)

pub loop-i-smaller : goal.loop-i-smaller
loop-i-smaller c = omega (arith, c.skip-i.ensures.down)

pub loop-i-preserved : goal.loop-i-preserved
loop-i-preserved c =
    scan_on (c.skip-i.ensures.is _ _ _ c.loop-i.invariant) (omega arith) c.better-hit.ensures
