use native.Mathlib.Omega.{arith}
use borrow.Author.Rules.{rules}
use Rattle.undoing.proofs.Calls.{whole_journal}
use Rattle.undo_run.proofs.Pieces.{fed_none, fed_more, fed_all}
use Rattle.undo_run.proofs.in_pieces.Goals as goal

pub loop-end-init : goal.loop-end-init
loop-end-init c = rw c.open-u.ensures (fed_none _ _ _ _)

pub loop-end-preserved : goal.loop-end-preserved
loop-end-preserved c =
    fed_more c.feed-g.result _ _ _ c.loop-end.invariant (search rules) (search rules) c.feed-g.ensures

pub returns : goal.returns
returns c =
    let f = c.finish-ended in
    let r = fed_all f.result _ _ c.loop-end.invariant c.loop-end-test.false f.ensures in
    whole_journal c.write.result _ _ _ _ f.result _ _ (omega arith) r c.write.ensures
