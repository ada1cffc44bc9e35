use Rattle.rules.specs.Ring.{advance}
use borrow.Author.Rules.{rules}
use Rattle.ring.proofs.advance.Goals as goal

pub returns : goal.returns
unfolding advance
returns c = search rules
