use Rattle.rules.specs.Ring.{complete_raises}
use borrow.Author.Rules.{rules}
use Rattle.ring.proofs.complete_raises.Goals as goal

pub returns : goal.returns
unfolding complete_raises
returns c = search rules
