use Rattle.rules.specs.Ring.{outstanding}
use borrow.Author.Rules.{rules}
use Rattle.ring.proofs.outstanding.Goals as goal

pub returns : goal.returns
unfolding outstanding
returns c = search rules
