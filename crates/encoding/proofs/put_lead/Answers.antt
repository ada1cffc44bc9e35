use mathlib.Core.Path.{◌∙◌}
use Rattle.encoding.proofs.Written.{lead_put}
use Rattle.encoding.proofs.put_lead.Goals as goal

pub returns : goal.returns
returns c =
    c.put-3.ensures
    ∙ rw (c.put-2.ensures, c.length_field.ensures, c.put.ensures)
    (lead_put _ _ _ _ c.requires.0)
