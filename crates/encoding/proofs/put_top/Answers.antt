use native.Mathlib.Omega.{arith}
use Rattle.encoding.proofs.Written.{top_put}
use Rattle.encoding.proofs.put_top.Goals as goal

pub returns : goal.returns
returns c =
    top_put _ _ (omega (arith, c.requires)) c.put_number.ensures c.put_lead.ensures
