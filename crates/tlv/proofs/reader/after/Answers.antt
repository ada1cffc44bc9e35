use Rattle.std.proofs.Common.{◌≡◌, ◌<◌, ◌^◌, ◌+◌, rules, arith}
use Rattle.rules.specs.Region.{after, tlv_end, filled}
use Rattle.tlv.proofs.reader.after.Goals as goal
use Rattle.tlv.proofs.reader.after.Goals.{In-Next}

-- the TLV's end, which fits
ends : (c : In-Next) → c.in-Next.tlv.start + filled c.in-Next.tlv.size < 2 ^ 64
unfolding after tlv_end
ends c =
    let e : after c.args.at c.args.step ≡ tlv_end c.in-Next.tlv = cc in
    omega (arith, e, c.requires)

pub filled-requires : goal.filled-requires
filled-requires c = omega (arith, ends (goal.at.filled-requires c).In-Next)

pub overflow_add-result : goal.overflow_add-result
overflow_add-result c = search (rules, ends (goal.at.overflow_add-result c).In-Next, c.filled.ensures)

pub returns-in-Next : goal.returns-in-Next
unfolding after tlv_end
returns-in-Next c = cc

pub returns-in-End : goal.returns-in-End
unfolding after
returns-in-End c = search rules
