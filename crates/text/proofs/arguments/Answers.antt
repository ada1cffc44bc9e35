use Prim.Native.Nat.{◌≤◌, ◌<◌}
use lib.ListN.{length, take}
use Rattle.std.specs.Prelude.{Some}
use mathlib.Core.Path.{ap, ◌∙◌}
use native.Mathlib.Omega.{arith}
use Rattle.std.proofs.lemmas.List.{take_more_set, length-set, take_all}
use Rattle.text.specs.Text.{word_count}
use Rattle.text.proofs.Laws.{numbers_stop, numbers_go, numbers_end, other_count, all_numbers}
use Rattle.text.proofs.arguments.Goals as goal
use Rattle.text.proofs.arguments.Goals.{After-count}

some : (g : _) (c : After-count g) → 1 ≤ c.count.result
unfolding word_count
some g c = omega (arith, c.count.ensures)

pub overflow_sub-count : goal.overflow_sub-count
overflow_sub-count g c = some g (goal.at.overflow_sub-count g c).After-count

pub returns-then-count : goal.returns-then-count
returns-then-count g c = other_count g.row.N _ c.args.s.now c.count.ensures c.if-count.true

pub returns-in_err-number : goal.returns-in_err-number
returns-in_err-number g c =
    let n = g.row.N in
    let s = c.args.s.now in
    c.from_residual.ensures ∙ all_numbers n _ s c.count.ensures c.if-count.false (some g (goal.at.returns-in_err-number g c).After-count) _ (numbers_stop n c.loop-i.i _ s c.loop-i.invariant.all c.loop-i-test.true c.in_err-number.ensures)

pub loop-i-preserved : goal.loop-i-preserved
loop-i-preserved g c =
    let n = g.row.N in
    let s = c.args.s.now in
    let items = c.loop-i.number-items in
    let i = c.loop-i.i in
    let v = c.in_ok-number.field-0 in
    let l : i < length items = omega (arith, c.loop-i-test.true, c.loop-i.invariant.size) in
    record {
      all = numbers_go n i (take i items) s c.loop-i.invariant.all v _ c.loop-i-test.true c.in_ok-number.ensures (take_more_set items i v l);
      size = length-set items i _ ∙ c.loop-i.invariant.size;
    }

pub returns : goal.returns
returns g c =
    let n = g.row.N in
    let s = c.args.s.now in
    all_numbers n _ s c.count.ensures c.if-count.false (some g (goal.at.returns g c).After-count) _ (numbers_end n c.loop-i.i _ s c.loop-i.invariant.all c.loop-i-test.false ∙ ap Some (take_all c.loop-i.i c.loop-i.number-items (omega (arith, c.loop-i-test.false, c.loop-i.invariant.size))))
