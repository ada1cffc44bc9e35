use Rattle.std.proofs.lemmas.Result.{err_from_is_err_and}
use Rattle.undoing.proofs.Calls.{journal_fails, too_few, as_fitted}
use Rattle.undoing.proofs.write.Goals as goal

-- a fault of the journal
pub returns-in_err-p : goal.returns-in_err-p
returns-in_err-p c =
    let p = err_from_is_err_and c.from_residual.result c.from_residual.ensures.1 in
    rw (p.1, p.2) (journal_fails _ _ _ _ _ _ c.in_err-p.was)

-- too few records
pub returns-then-p-n : goal.returns-then-p-n
returns-then-p-n c = too_few _ _ _ _ _ _ _ c.in_ok-p.was c.if-p-n.true c.refuse.ensures

pub returns : goal.returns
returns c = as_fitted _ _ _ _ _ _ _ _ c.in_ok-p.was c.if-p-n.false c.fit.ensures
