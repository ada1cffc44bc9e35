use Rattle.rules.proofs.FieldTable.{table, beyond}
use Rattle.rules.specs.Fields.{rule_of, rule_in, rows, member_width}
use mathlib.Core.Path.{sym}
use Prim.Native.Nat.{◌<◌}
use borrow.Author.Rules.{rules}
use Rattle.fields.proofs.rule_of.Goals as goal

pub returns-then-t-lt63 : goal.returns-then-t-lt63
unfolding rule_of rule_in rows member_width
returns-then-t-lt63 c =
    let t = c.args.t in
    let h : t < 63 = search rules in
    table rule_of 63 t (record { width = 0; uses = 0; needs = 0; member_width = 0 }) h

pub returns-else-t-lt63 : goal.returns-else-t-lt63
returns-else-t-lt63 c = sym (beyond _ c.if-t-lt63.false)
