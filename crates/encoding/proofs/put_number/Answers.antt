use Rattle.encoding.proofs.Written.{none_put, number_put}
use Rattle.encoding.proofs.put_number.Goals as goal

pub returns-then-size-eq0 : goal.returns-then-size-eq0
returns-then-size-eq0 c = none_put _ _ _ _ _ _ c.if-size-eq0.true c.put_lead.ensures

pub returns : goal.returns
returns c =
    rw (c.put-2.ensures, c.put.ensures)
    (number_put _ _ _ _ _ _ c.if-size-eq0.false c.requires.1 c.requires.0 c.put_lead.ensures)
