-- `device::call` meets its contract: each arm is the call's own.
-- Assumes nothing.
use Rattle.rules.specs.Switch.{storage}
use Rattle.device.specs.Outcome.{borrowed}
use Rattle.device.proofs.call.Goals as goal

pub returns-in-Read : goal.returns-in-Read
unfolding borrowed
returns-in-Read c =
    let a = c.args in
    rw c.in-Read.is (c.read.ensures (storage a.flows.now a.heads.now a.members.now a.order.now) (borrowed a.memory.now a.f.now a.buffer.now a.list.now))

pub returns-in-Write : goal.returns-in-Write
unfolding borrowed
returns-in-Write c =
    let a = c.args in
    rw c.in-Write.is (c.write.ensures (storage a.flows.now a.heads.now a.members.now a.order.now) (borrowed a.memory.now a.f.now a.buffer.now a.list.now))

pub returns-in-Link : goal.returns-in-Link
unfolding borrowed
returns-in-Link c =
    let a = c.args in
    rw c.in-Link.is (c.link.ensures (storage a.flows.now a.heads.now a.members.now a.order.now) (borrowed a.memory.now a.f.now a.buffer.now a.list.now))

pub returns-in-Process : goal.returns-in-Process
returns-in-Process c =
    let a = c.args in
    rw c.in-Process.is (c.process.ensures a.f.now a.list.now)

pub returns-in-Frame : goal.returns-in-Frame
returns-in-Frame c =
    let a = c.args in
    rw c.in-Frame.is (c.frame.ensures a.memory.now a.buffer.now)

pub returns-in-Header : goal.returns-in-Header
returns-in-Header c =
    let a = c.args in
    rw c.in-Header.is (c.header.ensures (storage a.flows.now a.heads.now a.members.now a.order.now) a.memory.now a.f.now a.list.now)
