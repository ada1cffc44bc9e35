-- One row is stored behind the last. Each way out is a law of Ends.
-- Assumes nothing.
use native.Mathlib.Omega.{arith}
use Rattle.plain.proofs.Ends.{twice, full, added}
use Rattle.plain.proofs.store.add.Goals as goal

pub returns-then-held : goal.returns-then-held
returns-then-held c = twice _ c.find-p.ensures.1 c.if-held.true

pub returns-then-n-ge-MAX_FLOWS : goal.returns-then-n-ge-MAX_FLOWS
returns-then-n-ge-MAX_FLOWS c = full _ c.find-p.ensures.1 c.if-held.false c.if-n-ge-MAX_FLOWS.true

pub returns : goal.returns
returns c =
    added _ c.find-p.ensures.1 _ c.row_of-row.ensures c.find-p.ensures.0 c.if-held.false (omega (arith, c.if-n-ge-MAX_FLOWS.false))
