use borrow.Author.Rules.{rules}
use Rattle.undoing.proofs.Calls.{opened_few, opened_reads, in_order, replayed_in_order, whole_journal}
use Rattle.undoing.proofs.undo.Goals as goal

pub finish-ended-requires : goal.finish-ended-requires
finish-ended-requires c = opened_few _ _ c.«open».ensures

pub write-requires : goal.write-requires
write-requires c =
    let d = opened_reads _ c.«open».result _ _ _ _ _ _ c.«open».ensures c.finish-ended.ensures in
    (in_order _ d.early_good, replayed_in_order _ _ d.now_good)

pub returns : goal.returns
returns c =
    let d = opened_reads _ c.«open».result _ _ _ _ _ _ c.«open».ensures c.finish-ended.ensures in
    whole_journal _ _ _ _ _ _ _ _ (search rules) d c.write.ensures
