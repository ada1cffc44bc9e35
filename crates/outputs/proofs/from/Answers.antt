use borrow.Author.Tests.{lt-ltb, le-ltb}
use Rattle.outputs.proofs.from.Goals as goal

pub returns-then-id-last : goal.returns-then-id-last
returns-then-id-last c = simp (lt-ltb _ _ c.if-id-last.true)

pub returns-else-id-last : goal.returns-else-id-last
returns-else-id-last c = simp (le-ltb _ _ c.if-id-last.false)
