use lib.ListN.{length-take}
use Rattle.outputs.proofs.Search.{passed_more, stopped, ended}
use native.Mathlib.Omega.{arith}
use Rattle.outputs.proofs.seek.Goals as goal

pub loop-at-init : goal.loop-at-init
loop-at-init c =
    let a = c.args in
    let g = c.all-1.given in
    (omega (arith, c.min-n.ensures, length-take a.count a.heads.now, g), omega (arith, c.min-n.ensures, g), c.requires)

pub returns-then-id-k : goal.returns-then-id-k
returns-then-id-k c =
    stopped c.loop-at.invariant.2 _ (omega (arith, c.loop-at.invariant.0)) (omega (arith, c.loop-at.invariant.1)) c.if-id-k.true

pub loop-at-preserved : goal.loop-at-preserved
loop-at-preserved c =
    (c.loop-at.invariant.0, c.loop-at.invariant.1, passed_more c.loop-at.invariant.2 c.if-id-k.false)

pub returns : goal.returns
returns c = ended c.loop-at.invariant.2 _ (omega (arith, c.loop-at.invariant.0))
