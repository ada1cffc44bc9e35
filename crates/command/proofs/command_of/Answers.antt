-- Each test that is passed leaves the rest of the rule (`past_top`, `past_type`), and the next place goes on from there.
use Rattle.std.proofs.Common.{rules, ◌≡◌, sym, ap, ◌∙◌}
use Rattle.std.proofs.lemmas.Result.{err_from_is_err_and}
use Rattle.rules.specs.Region.{well_formed}
use Rattle.rules.specs.Fields.{number_in, nest_in}
use Rattle.rules.specs.Decode.{header_of, need, is_command, command_in, decode}
use Rattle.rules.specs.declared.Status.TheVariants.{Einval, Enotsup}
use Rattle.fields.specs.Region.{Region}
use Rattle.command.specs.Kind.{number_of}
use Rattle.command.proofs.Answering.{answers_fault, region_err, region_ok, decode_malformed, decode_past}
use Rattle.command.proofs.Numbered.{kind_err, kind_ok}
use Rattle.command.proofs.command_of.Goals as goal
use Rattle.command.proofs.command_of.Goals.{Else-not-is_at, In_ok-kind}

pub returns-in_err-top : goal.returns-in_err-top
returns-in_err-top c =
    answers_fault _ _ Einval (err_from_is_err_and c.from_residual.result c.from_residual.ensures.1) (decode_malformed _ _ _ (sym c.new.ensures ∙ c.in_err-top.was))

pub returns-then-not-is_at : goal.returns-then-not-is_at
unfolding need
returns-then-not-is_at c =
    let d = decode_past c.args.terms c.args.payload.now _ _ _ (sym c.new.ensures ∙ c.in_ok-top.was) c.get-number.ensures c.get-info.ensures in
    rw d (simp (← c.is_at.ensures, ← c.is_at-2.ensures, c.if-not-is_at.true))

-- what decides past the top faults
past_top : (c : Else-not-is_at)
    → let a = c.args in
    let s = a.payload.now in
    decode a.terms s
    ≡ need (is_command (number_in s 2 c.get-number.result)) Enotsup
    (need (well_formed (header_of a.terms) (nest_in s c.get-info.result)) Einval (command_in a.terms (number_in s 2 c.get-number.result) (nest_in s c.get-info.result)))
unfolding need
past_top c =
    let d = decode_past c.args.terms c.args.payload.now _ _ _ (sym c.new.ensures ∙ c.in_ok-top.was) c.get-number.ensures c.get-info.ensures in
    d ∙ simp (← c.is_at.ensures, ← c.is_at-2.ensures, c.if-not-is_at.false)

pub returns-in_err-kind : goal.returns-in_err-kind
unfolding need
returns-in_err-kind c =
    let n = kind_err c.number_in.result c.in_err-kind.field-0.0 (sym c.try_from.ensures ∙ c.in_err-kind.was) in
    answers_fault _ _ Enotsup (err_from_is_err_and c.from_residual-in_err-kind.result c.from_residual-in_err-kind.ensures.1)
    (rw (past_top (goal.at.returns-in_err-kind c).Else-not-is_at) (simp (← c.number_in.ensures.value, n)))

-- what decides past an unknown CMD_TYPE
past_type : (c : In_ok-kind)
    → let a = c.args in
    let s = a.payload.now in
    decode a.terms s ≡ need (well_formed (header_of a.terms) (nest_in s c.get-info.result)) Einval (command_in a.terms (number_of c.in_ok-kind.kind) (nest_in s c.get-info.result))
unfolding need
past_type c =
    let n = kind_ok c.number_in.result c.in_ok-kind.kind (sym c.try_from.ensures ∙ c.in_ok-kind.was) in
    past_top (record { before = c.before.before.before.before.before; type_inv = search rules }) ∙ simp (← c.number_in.ensures.value, n.0, ← n.1)

pub returns-in_err-info : goal.returns-in_err-info
unfolding need
returns-in_err-info c =
    let n = region_err _ _ _ (sym c.new-2.ensures ∙ c.in_err-info.was) in
    let m = rw c.nest_in.ensures at n in
    answers_fault _ _ Einval (err_from_is_err_and c.from_residual-in_err-info.result c.from_residual-in_err-info.ensures.1)
    (rw (past_type (goal.at.returns-in_err-info c).In_ok-kind, m))

pub returns : goal.returns
unfolding need
returns c =
    let o = region_ok _ _ _ (sym c.new-2.ensures ∙ c.in_ok-info.was) in
    let m = rw c.nest_in.ensures at o.0 in
    rw (past_type (goal.at.returns c).In_ok-kind, m)
    (c.command_in.ensures ∙ ap (λ (r : Region). command_in r.terms (number_of c.in_ok-kind.kind) r.bytes) o.1 ∙ rw c.nest_in.ensures)
