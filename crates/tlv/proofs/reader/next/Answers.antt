use Rattle.std.proofs.Common.{sym}
use Rattle.rules.proofs.Region.{step_end, step_fault}
use Rattle.tlv.proofs.Reading.{front_is, front_not}
use Rattle.tlv.proofs.reader.next.Goals as goal

pub returns-then-r : goal.returns-then-r
returns-then-r c = sym (step_end _ _ _ c.if-r.true)

pub returns-in-Ok : goal.returns-in-Ok
returns-in-Ok c = sym (front_is c.args.header c.args.r.payload.now c.args.r.at _ c.in-Ok.ensures)

pub returns-in-Err : goal.returns-in-Err
returns-in-Err c =
    let r = c.args.r in
    sym (step_fault _ _ _ (front_not c.args.header r.payload.now r.at _ c.in-Err.ensures) c.if-r.false)
