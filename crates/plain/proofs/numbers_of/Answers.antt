-- A way out, or none.
-- Assumes nothing.
use Rattle.deciding.specs.Way.{exit_in}
use Rattle.plain.specs.Numbers.{way_at}
use Rattle.plain.proofs.numbers_of.Goals as goal

pub returns-then-w : goal.returns-then-w
unfolding way_at exit_in
returns-then-w c = simp c.if-w.true

pub returns-else-w : goal.returns-else-w
unfolding way_at exit_in
returns-else-w c = simp c.if-w.false
