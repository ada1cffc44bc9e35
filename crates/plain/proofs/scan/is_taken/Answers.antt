-- Each return is one branch of `is_taken`.
-- Assumes nothing.
use Rattle.plain.specs.Scan.{is_taken}
use Rattle.plain.proofs.scan.is_taken.Goals as goal

pub returns-then-found : goal.returns-then-found
unfolding is_taken
returns-then-found c = simp c.if-found.true c.beats.ensures

pub returns-else-found : goal.returns-else-found
unfolding is_taken
returns-else-found c = simp c.if-found.false
