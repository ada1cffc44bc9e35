-- The parts of a group ID ("A group ID holds"): 4 bits of type, 12 of VLAN, and 16 low bits, a port or an index. Of type 2 the 28 bits below
-- the type are an index (request 2026-03).
use Rattle.std.specs.Prelude.{ℕ, ◌+◌, ◌*◌, ◌/◌, ◌%◌, ◌^◌, Bool, ◌&&◌, ◌||◌, leb, eqb}
use Rattle.rules.specs.Choose.{choose}
use Rattle.rules.specs.Version.{routes}

unfoldable pub group_type : ℕ → ℕ
group_type id = id / 2 ^ 28

unfoldable pub group_vlan : ℕ → ℕ
group_vlan id = id / 2 ^ 16 % 2 ^ 12

unfoldable pub group_low : ℕ → ℕ
group_low id = id % 2 ^ 16

-- 1 to 4094
unfoldable pub vlan_allowed : ℕ → Bool
vlan_allowed v = leb 1 v && leb v 4094

-- types 3 and 4, whose groups have members
unfoldable pub has_members : ℕ → Bool
has_members t = eqb t 3 || eqb t 4

-- type 2, whose groups send routed frames on
unfoldable pub is_routing : ℕ → Bool
is_routing t = eqb t 2

-- what every group command asks of its ID, "also in del"; of the low bits only add and mod ask more (Decode: `group_allowed`). Type 2, with any
-- index, is there from the version on that has it
unfoldable pub group_id_allowed : ℕ → ℕ → Bool
group_id_allowed version id =
    choose (is_routing (group_type id)) (routes version)
    ((eqb (group_type id) 0 || has_members (group_type id)) && vlan_allowed (group_vlan id))

-- the ID of the group of type 0 with a VLAN and low bits
unfoldable pub member_id : ℕ → ℕ → ℕ
member_id vlan low = vlan * 2 ^ 16 + low
