-- The first i members are put, and those from the next on are left; each has 16 bytes.
use mathlib.Core.Path.{◌≡◌, ap}
use lib.ListN.{length}
use native.Mathlib.Omega.{arith}
use Rattle.rules.specs.declared.FieldRule.{FieldRule}
use Rattle.encoding.proofs.Written.{going_starts, going_on, going_ends}
use Rattle.encoding.proofs.FieldLists.{member_next, member_none, member_narrow, take_count}
use borrow.Author.Rules.{rules}
use Rattle.encoding.proofs.put_members.Goals as goal

pub loop-i-init : goal.loop-i-init
loop-i-init c = going_starts _

pub put_number-end-requires : goal.put_number-end-requires
put_number-end-requires c =
    let l = c.loop-i in
    (omega (arith, l.auto.out, l.invariant.puts.at_most, c.requires, c.loop-i-test.true, c.min-n.ensures), rw c.rule_of-rule.ensures (member_narrow _))

pub loop-i-preserved : goal.loop-i-preserved
loop-i-preserved c =
    going_on _ _ (search rules) (search rules)
    (member_next _ _ _ _ _ _ c.loop-i-test.true (omega arith) (ap (λ (x : FieldRule). x.member_width) c.rule_of-rule.ensures) (rw c.vlan_of-vlan.ensures at c.member_id-member.ensures))
    c.loop-i.invariant c.put_number-end.ensures

pub returns : goal.returns
returns c =
    let size : length c.args.members ≡ 62 = search rules in
    rw (← take_count _ _ _ c.min-n.ensures size)
    (going_ends 992 (member_none _ _ _ _ _ c.loop-i-test.false (omega arith)) (search rules) c.loop-i.invariant)
