use Rattle.deciding.proofs.is_terminated.Goals as goal

pub returns : goal.returns
returns c = rw c.flow-e.ensures
