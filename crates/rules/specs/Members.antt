-- The members of a group of type 3 or 4 ("Types 3 and 4"): GROUP_IDS holds their IDs, one TLV each, and GROUP_COUNT their number.
use Rattle.std.specs.Prelude.{ℕ, ◌+◌, ◌-◌, Bool, true, false, not, ◌&&◌, ◌||◌, List, [], ◌∷◌, ◌++◌, length, replicate, ltb, leb, eqb}
use Rattle.rules.specs.Choose.{choose}
use Rattle.rules.specs.Limits.{max_ports}
use Rattle.rules.specs.Bytes.{le_at}
use Rattle.rules.specs.Region.{tlvs, well_formed}
use Rattle.rules.specs.Fields.{rule_of}
use Rattle.rules.specs.GroupId.{group_type, group_vlan, group_low}
use Rattle.rules.specs.declared.Tlv.{Tlv}

unfoldable pub elem : ℕ → List ℕ → Bool
elem x [] = false
elem x (y ∷ ys) = eqb y x || elem x ys

-- The TLV after n members is a member of a group with this VLAN: type n + 1, at most 62, the width that the field table gives that
-- type, an ID of type 0 with the VLAN; and its low bits are not among those before it. (Two IDs of one type and VLAN are distinct
-- exactly if their low bits are.)
unfoldable pub member_right : ℕ → ℕ → Tlv → ℕ → Bool → Bool
member_right vlan n x id there =
    ltb n max_ports && eqb x.kind (n + 1) && eqb x.size (rule_of (n + 1)).member_width
    && eqb (group_type id) 0 && eqb (group_vlan id) vlan && not there

-- Members collected: whether every TLV was right, and the low bits of those collected
pub record Collected : Type 0 where
  pub right : Bool
  pub lows : List ℕ

-- the members that TLVs of a region add to those before them
unfoldable pub collect : List ℕ → ℕ → List ℕ → List Tlv → Collected
collect s vlan before [] = record { right = true; lows = before }
collect s vlan before (x ∷ xs) =
    choose (member_right vlan (length before) x (le_at 4 s x.start) (elem (group_low (le_at 4 s x.start)) before))
    (collect s vlan (before ++ (group_low (le_at 4 s x.start) ∷ [])) xs)
    (record { right = false; lows = [] })

-- the members in GROUP_IDS, a region like the others; h as in Region
unfoldable pub members_in : ℕ → List ℕ → ℕ → Collected
members_in h s vlan = choose (well_formed h s) (collect s vlan [] (tlvs h s 0)) (record { right = false; lows = [] })

-- GROUP_IDS is right for a GROUP_COUNT: 1 to 62, and as many members
unfoldable pub members_right : ℕ → Collected → Bool
members_right count c = c.right && leb 1 count && leb count max_ports && eqb (length c.lows) count

-- members at the front of 62 numbers, the rest 0
unfoldable pub pad : List ℕ → List ℕ
pad l = l ++ replicate (max_ports - length l) 0
