use Rattle.std.proofs.Common.{rules, tests}
use Rattle.std.proofs.lemmas.Iterator.Consumers.{count_from_yields_List, YieldsList-from_filter}
use Rattle.std.proofs.lemmas.Iterator.{YieldsList-from_slice}
use Rattle.text.proofs.Laws.{spaces_are}
use Rattle.text.specs.Text.{word_count}
use native.Mathlib.Omega.{arith}
use lib.Dec.{eqb}
use Rattle.text.proofs.count.Goals as goal

pub returns : goal.returns
unfolding word_count
returns c =
    let e = count_from_yields_List c.filter.result _ c.count.ensures.ran (YieldsList-from_filter _ (λ b. eqb b 32) (YieldsList-from_slice c.args.s.now cc) c.filter.ensures.closure (λ x r q k. search (rules, tests))) in
    omega (arith, e, spaces_are c.args.s.now)
