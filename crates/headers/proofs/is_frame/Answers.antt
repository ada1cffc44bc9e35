use Rattle.rules.specs.Frame.{is_frame}
use Rattle.headers.proofs.is_frame.Goals as goal

pub returns : goal.returns
unfolding is_frame
returns c = rw c.is_tagged.ensures
