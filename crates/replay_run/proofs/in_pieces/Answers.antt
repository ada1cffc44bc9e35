use native.Mathlib.Omega.{arith}
use borrow.Author.Rules.{rules}
use Rattle.rules.proofs.Bytes.{to_end}
use Rattle.replaying.proofs.Pieces.{fed_more, fed_all}
use Rattle.replay_run.proofs.in_pieces.Goals as goal

pub loop-end-preserved : goal.loop-end-preserved
loop-end-preserved c =
    let i = c.loop-end.invariant in
    fed_more c.feed-f.result _ _ i (omega arith) (omega (arith, c.piece-end.ensures.1, i.within)) c.feed-f.ensures

pub returns : goal.returns
returns c = fed_all c.finish.result _ (search rules) c.loop-end.invariant (rw to_end at c.finish.ensures)
