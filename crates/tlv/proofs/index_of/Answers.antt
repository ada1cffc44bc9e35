use Rattle.std.proofs.Common.{sym, subst, ap, ◌∙◌, ◌∷◌, List}
use Rattle.tlv.specs.Reading.{Read}
use Rattle.tlv.proofs.Indexing.{Indexing, indexing_starts, indexing_next, indexing_ends, indexing_fails}
use Rattle.tlv.proofs.index_of.Goals as goal

pub loop-tlv-init : goal.loop-tlv-init
loop-tlv-init c =
    let a = c.args in
    let e = c.into_iter-tlv-iterator.ensures.into_iter_gives ∙ c.new-tlv-items.ensures in
    subst (λ (rest : List Read). Indexing a.header a.region.now rest _) (sym e) (indexing_starts a.header a.region.now)

pub loop-tlv-preserved : goal.loop-tlv-preserved
loop-tlv-preserved c =
    let e = c.in-Some.ensures.steps ∙ ap (λ (r : Read). r ∷ c.next.new.self) c.in-Ok.is in
    let i = subst (λ (rest : List Read). Indexing c.args.header c.args.region.now rest c.loop-tlv.places) e c.loop-tlv.invariant in
    rw c.note.ensures (indexing_next i)

pub returns-in-Err : goal.returns-in-Err
returns-in-Err c =
    let e = c.in-Some.ensures.steps ∙ ap (λ (r : Read). r ∷ c.next.new.self) c.in-Err.is in
    let i = subst (λ (rest : List Read). Indexing c.args.header c.args.region.now rest c.loop-tlv.places) e c.loop-tlv.invariant in
    let f = indexing_fails i in
    record { right = tt; partial = f.0; whole = f.1 }

pub returns : goal.returns
returns c =
    let i = subst (λ (rest : List Read). Indexing c.args.header c.args.region.now rest c.loop-tlv.places) c.in-None.ensures.steps.0 c.loop-tlv.invariant in
    let e = indexing_ends i in
    record { right = e.0; partial = tt; whole = e.1 }
