-- `device::process` meets its contract.
-- What `take` found is of the rules' command ring; refused, it is the rules' refusal, and else prepare_taken, carry out, finish and complete are its effect.
-- Assumes nothing.
use Rattle.std.proofs.Common.{◌≡◌, arith}
use Rattle.std.specs.Prelude.{Err}
use Rattle.device.proofs.Processing.{process_refused, processed, still_fits}
use borrow.Author.Rules.{rules}
use mathlib.Core.Path.{subst, sym}
use Rattle.rules.specs.declared.Counts.{Counts}
use Rattle.rules.specs.declared.Firsts.{Firsts}
use Rattle.rules.specs.Switch.{storage}
use Rattle.tables.specs.Commands.{status_of}
use Rattle.carrying.specs.Outcome.{Carried}
use Rattle.device.proofs.process.Goals as goal

pub returns-in_err-t : goal.returns-in_err-t
returns-in_err-t c =
    let passed : c.from_residual.result ≡ Err c.in_err-t.field-0.0 = grind arith in
    let k = rw (c.in_err-t.was, c.command_ring-ring.ensures) at c.take.ensures in
    λ frame list. rw passed (process_refused _ _ _ frame _ list _ k)

pub returns : goal.returns
returns c =
    let ring = c.command_ring-ring.ensures in
    let k = rw (c.in_ok-t.was, ring) at c.take.ensures in
    let p = rw c.terms_of.ensures at c.prepare_taken-q.ensures in
    let f = rw (ring, c.status-status.ensures) at c.finish-completed.ensures in
    let carried = subst (λ (t : Counts × Firsts). Carried (status_of c.carry_out-x.result) t c.args.d.counts c.args.d.firsts (storage c.args.flows.now c.args.heads.now c.args.members.now c.args.order.now) (storage c.carry_out-x.new.flows c.carry_out-x.new.heads c.carry_out-x.new.members c.carry_out-x.new.order) c.prepare_taken-q.result) (sym c.unwrap_or.ensures) c.carry_out-x.ensures.outcome in
    λ frame list. rw c.quiet.ensures (processed _ _ _ frame _ list _ k _ _ _ _ _ _ _ _ _ _ _ _ p carried c.size_of-size.ensures f c.complete_raises.ensures c.complete-moved.ensures)
