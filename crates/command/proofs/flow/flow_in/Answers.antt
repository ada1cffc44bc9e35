-- Past the table the rule is one test and what it carries (`past_table`), and that test is the code's (`told`).
use Rattle.rules.specs.declared.Command.{Command}
use Rattle.rules.specs.declared.Status.TheVariants.{Einval}
use mathlib.Core.List.{[]}
use Rattle.rules.specs.Decode.{header_of, need, carried, ethertype_in, match_of, flow_of, flow_user, pair_alone, match_allowed, flow_in}
use Rattle.rules.specs.Fields.{fields_right, value, given}
use Rattle.rules.specs.declared.Flow.{Flow}
use mathlib.Core.Bool.{◌&&◌}
use mathlib.Core.Path.{◌≡◌, ap, ◌∙◌}
use borrow.Author.Rules.{rules}
use Rattle.command.proofs.flow.flow_in.Goals as goal
use Rattle.command.proofs.flow.flow_in.Goals.{After-be16-ethertype, After-match_allowed}

pub returns-then-not-given : goal.returns-then-not-given
unfolding flow_in need
returns-then-not-given c = λ make. simp (← c.given.ensures, c.if-not-given.true)

pub returns-then-not-is_table : goal.returns-then-not-is_table
unfolding flow_in need
returns-then-not-is_table c = λ make.
    let k = rw c.terms-terms.ensures at c.is_table.ensures in
    simp (
      ← c.given.ensures,
      c.if-not-given.false,
      ← c.value-t.ensures,
      ← k,
      c.if-not-is_table.true,
    )

-- what decides past the faults of TBL
past_table : (c : After-be16-ethertype) → (make : Flow → Command)
    → let i = c.args.info.now in
    let s = i.bytes in
    let h = header_of i.terms in
    let t = c.value-t.result in
    flow_in i.terms s make
    ≡ need (fields_right h s (flow_user t c.be16-ethertype.result) && pair_alone h s t && match_allowed i.terms (value h s 9) (given h s 19) (match_of h s t)) Einval
    (carried (make (flow_of h s t)) [])
unfolding flow_in need ethertype_in
past_table c make =
    let k = rw c.terms-terms.ensures at c.is_table.ensures in
    simp (
      ← c.given.ensures,
      c.if-not-given.false,
      ← c.value-t.ensures,
      ← k,
      c.if-not-is_table.false,
      ← c.be16-ethertype.ensures,
    )

pub flow_of-flow-requires : goal.flow_of-flow-requires
unfolding ethertype_in
flow_of-flow-requires c = search rules

pub pair_alone-requires : goal.pair_alone-requires
unfolding ethertype_in
pair_alone-requires c = search rules

-- the test of the match is the rule's
told : (c : After-match_allowed)
    → let i = c.args.info.now in
    let h = header_of i.terms in
    c.match_allowed.result ≡ match_allowed i.terms (value h i.bytes 9) (given h i.bytes 19) (match_of h i.bytes c.value-t.result)
unfolding flow_of
told c =
    let g = ap (λ (x : Flow). x.goto_tbl) c.flow_of-flow.ensures in
    let m = ap (λ (x : Flow). x.matching) c.flow_of-flow.ensures in
    c.match_allowed.ensures ∙ rw (g, m, c.given-has_new.ensures, c.terms-terms.ensures)

pub returns-then-not-right_for-pair_alone : goal.returns-then-not-right_for-pair_alone
unfolding need
returns-then-not-right_for-pair_alone c = λ make.
    rw (past_table (goal.at.returns-then-not-right_for-pair_alone c).After-be16-ethertype make)
    (simp (
      ← c.flow_user.ensures,
      ← c.right_for.ensures,
      ← c.pair_alone.ensures,
      ← told (goal.at.returns-then-not-right_for-pair_alone c).After-match_allowed,
      c.if-not-right_for-pair_alone.true,
    ))

pub returns : goal.returns
unfolding need
returns c = λ make.
    rw (past_table (goal.at.returns c).After-be16-ethertype make)
    (simp (
      ← c.flow_user.ensures,
      ← c.right_for.ensures,
      ← c.pair_alone.ensures,
      ← told (goal.at.returns c).After-match_allowed,
      c.if-not-right_for-pair_alone.false,
      ← c.flow_of-flow.ensures,
    ))
