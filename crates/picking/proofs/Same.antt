-- Entries compared field by field, and members one by one: what a derived `==` computes, and the rules' comparison in their own order.
-- Assumes nothing.
use Prim.Native.Nat.{ℕ}
use mathlib.Core.Bool.{Bool, true, false, ◌&&◌, beq}
use mathlib.Core.Path.{◌≡◌, refl, ap}
use mathlib.Core.List.{List, [], ◌∷◌}
use lib.Dec.{eqb}
use lib.Pointwise.{pointwise}
use Rattle.rules.specs.Undo.{same_bit, same_list, same_flow, same_group}
use Rattle.rules.specs.declared.FlowEntry.{FlowEntry}
use Rattle.rules.specs.declared.GroupEntry.{GroupEntry}
use Rattle.rules.proofs.Cases.{by_test}

beq_same : (a b : Bool) → beq a b ≡ same_bit a b
unfolding same_bit
beq_same true true = refl
beq_same true false = refl
beq_same false true = refl
beq_same false false = refl

and_false : (b : Bool) → b && false ≡ false
and_false true = refl
and_false false = refl

members_same : (a b : List ℕ) → pointwise eqb a b ≡ same_list a b
unfolding same_list
members_same [] [] = refl
members_same [] (y ∷ b) = refl
members_same (x ∷ a) [] = refl
members_same (x ∷ a) (y ∷ b) = ap (λ (r : Bool). eqb x y && r) (members_same a b)

pub flow_same : (a b : FlowEntry)
    → eqb a.cookie b.cookie && (eqb a.dst_mac b.dst_mac && (eqb a.address_high b.address_high && (eqb a.address_low b.address_low && (eqb a.priority b.priority && (eqb a.hardtime b.hardtime && (eqb a.idletime b.idletime && (eqb a.in_pport b.in_pport && (eqb a.in_pport_mask b.in_pport_mask && (eqb a.group_id b.group_id && (eqb a.table b.table && (eqb a.goto_tbl b.goto_tbl && (eqb a.vlan_id b.vlan_id && (eqb a.new_vlan_id b.new_vlan_id && (eqb a.ethertype b.ethertype && (eqb a.prefix b.prefix && (beq a.has_mac b.has_mac && beq a.has_group b.has_group))))))))))))))))
    ≡ same_flow a b
unfolding same_flow
flow_same a b =
    by_test (eqb a.cookie b.cookie)
    (λ p0.
    by_test (eqb a.dst_mac b.dst_mac)
    (λ p1.
    by_test (eqb a.address_high b.address_high)
    (λ p2.
    by_test (eqb a.address_low b.address_low)
    (λ p3.
    by_test (eqb a.priority b.priority)
    (λ p4.
    by_test (eqb a.hardtime b.hardtime)
    (λ p5.
    by_test (eqb a.idletime b.idletime)
    (λ p6.
    by_test (eqb a.in_pport b.in_pport)
    (λ p7.
    by_test (eqb a.in_pport_mask b.in_pport_mask)
    (λ p8.
    by_test (eqb a.group_id b.group_id)
    (λ p9.
    by_test (eqb a.table b.table)
    (λ p10.
    by_test (eqb a.goto_tbl b.goto_tbl)
    (λ p11.
    by_test (eqb a.vlan_id b.vlan_id)
    (λ p12.
    by_test (eqb a.new_vlan_id b.new_vlan_id)
    (λ p13.
    by_test (eqb a.ethertype b.ethertype)
    (λ p14.
    by_test (eqb a.prefix b.prefix)
    (λ p15.
    simp (p0, p1, p2, p3, p4, p5, p6, p7, p8, p9, p10, p11, p12, p13, p14, p15, beq_same))
    (λ p15. simp (p0, p1, p2, p3, p4, p5, p6, p7, p8, p9, p10, p11, p12, p13, p14, p15, and_false)))
    (λ p14. simp (p0, p1, p2, p3, p4, p5, p6, p7, p8, p9, p10, p11, p12, p13, p14, and_false)))
    (λ p13. simp (p0, p1, p2, p3, p4, p5, p6, p7, p8, p9, p10, p11, p12, p13, and_false)))
    (λ p12. simp (p0, p1, p2, p3, p4, p5, p6, p7, p8, p9, p10, p11, p12, and_false)))
    (λ p11. simp (p0, p1, p2, p3, p4, p5, p6, p7, p8, p9, p10, p11, and_false)))
    (λ p10. simp (p0, p1, p2, p3, p4, p5, p6, p7, p8, p9, p10, and_false)))
    (λ p9. simp (p0, p1, p2, p3, p4, p5, p6, p7, p8, p9, and_false)))
    (λ p8. simp (p0, p1, p2, p3, p4, p5, p6, p7, p8, and_false)))
    (λ p7. simp (p0, p1, p2, p3, p4, p5, p6, p7, and_false)))
    (λ p6. simp (p0, p1, p2, p3, p4, p5, p6, and_false)))
    (λ p5. simp (p0, p1, p2, p3, p4, p5, and_false)))
    (λ p4. simp (p0, p1, p2, p3, p4, and_false)))
    (λ p3. simp (p0, p1, p2, p3, and_false)))
    (λ p2. simp (p0, p1, p2, and_false)))
    (λ p1. simp (p0, p1, and_false)))
    (λ p0. simp (p0))

pub group_same : (a b : GroupEntry)
    → eqb a.id b.id && (beq a.pop_vlan b.pop_vlan && (eqb a.member_count b.member_count && (eqb a.vlan_id b.vlan_id && (eqb a.src_mac b.src_mac && (eqb a.dst_mac b.dst_mac && pointwise eqb a.members b.members)))))
    ≡ same_group a b
unfolding same_group
group_same a b =
    by_test (eqb a.id b.id)
    (λ p0. by_test (same_bit a.pop_vlan b.pop_vlan)
    (λ p1. by_test (eqb a.member_count b.member_count)
    (λ p2. by_test (eqb a.vlan_id b.vlan_id)
    (λ p3. by_test (eqb a.src_mac b.src_mac)
    (λ p4. by_test (eqb a.dst_mac b.dst_mac)
    (λ p5. simp (p0, beq_same, p1, p2, p3, p4, p5, members_same))
    (λ p5. simp (p0, beq_same, p1, p2, p3, p4, p5, and_false)))
    (λ p4. simp (p0, beq_same, p1, p2, p3, p4, and_false)))
    (λ p3. simp (p0, beq_same, p1, p2, p3, and_false)))
    (λ p2. simp (p0, beq_same, p1, p2, and_false)))
    (λ p1. simp (p0, beq_same, p1)))
    (λ p0. simp (p0))
