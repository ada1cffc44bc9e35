-- `capi::rocker_call_parts` meets its contract.
-- Assumes nothing.
use Rattle.rules.specs.Switch.{unless_refused}
use Rattle.device.specs.Outcome.{borrowed}
use Rattle.capi.specs.Asking.{asked, ask_refusal, request_of}
use Rattle.capi.proofs.Outcomes.{refused, no_kind}
use Rattle.capi.proofs.rocker_call_parts.Goals as goal

pub returns-then-kind-eq0 : goal.returns-then-kind-eq0
unfolding asked ask_refusal request_of unless_refused borrowed
returns-then-kind-eq0 c =
    let a = c.args in
    rw c.if-kind-eq0.true (c.rocker_read_parts-answer.ensures _ (borrowed a.memory.now a.frame.now a.buffer.now a.list.now))

pub returns-then-kind-eq1 : goal.returns-then-kind-eq1
unfolding asked ask_refusal request_of unless_refused borrowed
returns-then-kind-eq1 c =
    let a = c.args in
    rw c.if-kind-eq1.true (c.rocker_write_parts-answer.ensures _ (borrowed a.memory.now a.frame.now a.buffer.now a.list.now))

pub returns-then-kind-eq3 : goal.returns-then-kind-eq3
unfolding asked ask_refusal request_of unless_refused
returns-then-kind-eq3 c =
    rw c.if-kind-eq3.true (c.process_into.ensures _ _)

pub returns-then-kind-eq4 : goal.returns-then-kind-eq4
unfolding asked ask_refusal request_of unless_refused
returns-then-kind-eq4 c =
    rw c.if-kind-eq4.true (c.frame_into.ensures _ _)

pub returns-then-kind-eq5 : goal.returns-then-kind-eq5
unfolding asked ask_refusal request_of unless_refused
returns-then-kind-eq5 c =
    rw c.if-kind-eq5.true (c.rocker_header_parts-answer.ensures _ _ _ _)

pub returns-then-kind-eq2 : goal.returns-then-kind-eq2
unfolding asked ask_refusal request_of unless_refused borrowed
returns-then-kind-eq2 c =
    let a = c.args in
    rw c.if-kind-eq2.true (c.rocker_link_parts.ensures _ (borrowed a.memory.now a.frame.now a.buffer.now a.list.now))

pub returns : goal.returns
unfolding borrowed
returns c =
    let a = c.args in
    refused _ _ (borrowed a.memory.now a.frame.now a.buffer.now a.list.now) _ _ _ _ (no_kind _ _ c.if-kind-eq0.false c.if-kind-eq1.false c.if-kind-eq2.false c.if-kind-eq3.false c.if-kind-eq4.false c.if-kind-eq5.false)
