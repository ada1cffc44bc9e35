use Rattle.text.specs.Text.{argument_of}
use Rattle.text.proofs.argument.Goals as goal

pub returns : goal.returns
unfolding argument_of
returns c = cc
