-- What a TLV adds to the members before it.
use Rattle.std.specs.Prelude.{ℕ, Bool, List, Option, Some, None}
use Rattle.rules.specs.Choose.{choose}
use Rattle.rules.specs.Bytes.{le_at}
use Rattle.rules.specs.GroupId.{group_low}
use Rattle.rules.specs.Members.{elem, member_right}
use Rattle.rules.specs.declared.Tlv.{Tlv}

-- the low bits that a TLV adds to n members before it, and whether it is right after them
abbrev pub low_at : List ℕ → Tlv → ℕ
low_at s x = group_low (le_at 4 s x.start)

abbrev pub right_after : List ℕ → ℕ → List ℕ → ℕ → Tlv → Bool
right_after s vlan before n x = member_right vlan n x (le_at 4 s x.start) (elem (low_at s x) before)

abbrev pub taken : List ℕ → ℕ → List ℕ → ℕ → Tlv → Option ℕ
taken s vlan before n x = choose (right_after s vlan before n x) (Some (low_at s x)) None
