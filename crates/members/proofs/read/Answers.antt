-- Each turn by the laws of a list under way (Collect): it starts, goes on with a member, and stops.
use Rattle.std.proofs.Common.{sym, subst, ap, ◌∙◌, ◌∷◌, List, Ok}
use Rattle.tlv.specs.Reading.{Read}
use Rattle.members.proofs.Collect.{Reading, reading_starts, reading_takes, reading_fails, reading_stops, reading_ends}
use Rattle.members.proofs.read.Goals as goal
use Rattle.members.proofs.read.Goals.{In-Ok}

pub loop-tlv-init : goal.loop-tlv-init
loop-tlv-init c =
    let a = c.args in
    let e = c.into_iter-tlv-iterator.ensures.into_iter_gives ∙ c.new-tlv-items.ensures in
    subst (λ (rest : List Read). Reading a.header a.region.now a.vlan rest _ 0) (sym e) (reading_starts a.header a.region.now a.vlan)

pub returns-in_default : goal.returns-in_default
returns-in_default c =
    let a = c.args in
    let e = c.in-Some.ensures.steps ∙ ap (λ (r : Read). r ∷ c.next.new.self) c.in_default.is in
    let i = subst (λ (rest : List Read). Reading a.header a.region.now a.vlan rest c.loop-tlv.lows c.loop-tlv.n) e c.loop-tlv.invariant in
    reading_stops i a.count

-- a TLV is read
reads : (c : In-Ok) → let a = c.args in Reading a.header a.region.now a.vlan (Ok c.in-Ok.tlv ∷ c.next.new.self) c.loop-tlv.lows c.loop-tlv.n
reads c =
    let a = c.args in
    let e = c.in-Some.ensures.steps ∙ ap (λ (r : Read). r ∷ c.next.new.self) c.in-Ok.is in
    subst (λ (rest : List Read). Reading a.header a.region.now a.vlan rest c.loop-tlv.lows c.loop-tlv.n) e c.loop-tlv.invariant

pub returns-in_default-member : goal.returns-in_default-member
returns-in_default-member c =
    reading_fails (reads (goal.at.returns-in_default-member c).In-Ok) c.args.count (sym c.in_default-member.is ∙ c.member.ensures)

pub bounds-lows-n : goal.bounds-lows-n
bounds-lows-n c = (reading_takes (reads (goal.at.bounds-lows-n c).In-Ok) c.in-Some-member.low (sym c.in-Some-member.is ∙ c.member.ensures)).0

pub loop-tlv-preserved : goal.loop-tlv-preserved
loop-tlv-preserved c = (reading_takes (reads (goal.at.loop-tlv-preserved c).In-Ok) c.in-Some-member.low (sym c.in-Some-member.is ∙ c.member.ensures)).1

pub returns-then-count-n : goal.returns-then-count-n
returns-then-count-n c =
    let a = c.args in
    let i = subst (λ (rest : List Read). Reading a.header a.region.now a.vlan rest c.loop-tlv.lows c.loop-tlv.n) c.in-None.ensures.steps.0 c.loop-tlv.invariant in
    rw c.if-count-n.true at (reading_ends i a.count)

pub returns-else-count-n : goal.returns-else-count-n
returns-else-count-n c =
    let a = c.args in
    let i = subst (λ (rest : List Read). Reading a.header a.region.now a.vlan rest c.loop-tlv.lows c.loop-tlv.n) c.in-None.ensures.steps.0 c.loop-tlv.invariant in
    rw c.if-count-n.false at (reading_ends i a.count)
