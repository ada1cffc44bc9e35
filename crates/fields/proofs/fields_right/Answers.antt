use Rattle.std.proofs.Common.{sym, ◌∙◌, ◌-◌, arith}
use Rattle.rules.specs.Fields.{fields_right}
use Rattle.fields.proofs.Every.{every_one, not_every}
use Rattle.fields.proofs.fields_right.Goals as goal

pub returns-then-not-field_right : goal.returns-then-not-field_right
unfolding fields_right
returns-then-not-field_right c =
    sym (not_every 44 (c.loop-t.t - 1) _ (omega (arith, c.loop-t-test.true, c.loop-t.auto.t)) (sym c.field_right.ensures ∙ c.if-not-field_right.true))

pub returns : goal.returns
unfolding fields_right
returns c = sym (every_one 44 _ (λ k l. c.loop-t.invariant k (omega (arith, c.loop-t-test.false)) l))
