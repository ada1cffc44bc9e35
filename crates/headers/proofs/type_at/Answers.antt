use lib.Dec.{lit≤}
use Rattle.headers.proofs.type_at.Goals as goal

pub returns-then-is_tagged : goal.returns-then-is_tagged
returns-then-is_tagged c = (rw (← c.is_tagged.ensures, c.if-is_tagged.true), lit≤ tt)

pub returns-else-is_tagged : goal.returns-else-is_tagged
returns-else-is_tagged c = (rw (← c.is_tagged.ensures, c.if-is_tagged.false), lit≤ tt)
