use Rattle.encoding.proofs.lower_id.Goals as goal

pub returns : goal.returns
returns c = c.member_id.ensures
