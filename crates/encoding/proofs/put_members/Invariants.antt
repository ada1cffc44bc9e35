use Prim.Native.Nat.{◌+◌, ◌*◌, ◌≤◌}
use lib.ListN.{take, drop}
use Rattle.rules.specs.GroupId.{group_vlan}
use Rattle.rules.specs.Encode.{region_of, member_fields}
use Rattle.encoding.proofs.Written.{Going}
use Rattle.encoding.proofs.put_members.Given as goal

abbrev pub invariant-loop-i : goal.invariant-loop-i
invariant-loop-i l =
    Going (region_of (member_fields (group_vlan l.id) 1 (take l.n l.members))) (region_of (member_fields (group_vlan l.id) (l.i + 1) (drop l.i (take l.n l.members)))) l.at l.initial.out (16 * l.i) l.end l.out
