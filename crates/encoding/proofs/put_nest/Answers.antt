use native.Mathlib.Omega.{arith}
use Rattle.encoding.proofs.Written.{nest_put}
use Rattle.encoding.proofs.put_nest.Goals as goal

pub returns : goal.returns
returns c =
    nest_put _ _ (omega (arith, c.requires)) c.put_members-end.ensures c.put_lead.ensures
