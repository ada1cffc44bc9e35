use Rattle.encoding.proofs.Words.{no_ones}
use Rattle.encoding.proofs.more_ones.Goals as goal

pub returns-then-n-le64 : goal.returns-then-n-le64
returns-then-n-le64 c = no_ones _ c.if-n-le64.true

pub returns : goal.returns
returns c = c.ones.ensures
