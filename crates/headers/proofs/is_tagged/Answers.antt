use Rattle.rules.specs.Frame.{is_tagged}
use Rattle.headers.proofs.is_tagged.Goals as goal

pub returns : goal.returns
unfolding is_tagged
returns c = rw (c.byte-2.ensures, c.byte.ensures)
