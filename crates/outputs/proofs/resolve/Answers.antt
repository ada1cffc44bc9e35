-- The loop keeps: the first k members are resolved in the list, and the search position fits the last ID that was looked up.
-- Assumes nothing.
use mathlib.Core.Path.{◌≡◌}
use lib.ListN.{length}
use Rattle.rules.proofs.Arrays.{live_length}
use Rattle.outputs.proofs.Search.{passed_none, passed_from}
use Rattle.outputs.proofs.Resolving.{resolved_none, resolved_all, resolved_gone, resolved_sent}
use borrow.Author.Rules.{rules}
use native.Mathlib.Omega.{arith}
use Rattle.outputs.proofs.resolve.Goals as goal

pub loop-k-init : goal.loop-k-init
loop-k-init c =
    let a = c.args in
    let k : length a.m.lows ≡ 62 = search rules in
    (omega arith, omega arith, live_length c.min-size.result a.m.count 62 a.m.lows c.min-size.ensures k, passed_none _ _, resolved_none _ _ _ _ _ _)

pub seek-p-requires : goal.seek-p-requires
seek-p-requires c = rw c.from.ensures (passed_from c.loop-k.invariant.3 c.member_id-id.result)

pub offset_bounds-heads-at : goal.offset_bounds-heads-at
offset_bounds-heads-at c = let h = c.seek-p.ensures.here c.if-p.true in search rules

pub bounds-heads-at : goal.bounds-heads-at
bounds-heads-at c = omega (arith, c.seek-p.ensures.here c.if-p.true)

pub loop-k-preserved-then-p : goal.loop-k-preserved-then-p
loop-k-preserved-then-p c =
    let l = c.loop-k.invariant in (
      omega arith,
      l.1,
      l.2,
      c.seek-p.ensures.passed,
      resolved_sent _ _ _ _ _ _ l.4 (omega arith) c.member_id-id.ensures c.seek-p.ensures c.if-p.true
          c.low_of-port.ensures c.flag-pop.ensures (omega (arith, l.4.few, l.4.sized, c.requires)) c.send-out.ensures,
    )

pub loop-k-preserved : goal.loop-k-preserved
loop-k-preserved c =
    let l = c.loop-k.invariant in
    (omega arith, l.1, l.2, c.seek-p.ensures.passed, resolved_gone _ _ _ _ _ _ l.4 (omega arith) c.member_id-id.ensures c.seek-p.ensures c.if-p.false)

pub returns : goal.returns
returns c = resolved_all _ _ _ _ _ _ c.loop-k.invariant.4 (omega arith)
