-- A group ID taken apart by shifts and masks, and put together.
-- Assumes nothing.
use Prim.Native.Nat.{ℕ, ◌+◌, ◌*◌, ◌/◌, ◌^◌, ◌<◌}
use mathlib.Core.Path.{◌≡◌, refl}
use native.Mathlib.Omega.{arith}
use lib.Bits.{bit_and, and_mask}
use Rattle.rules.specs.GroupId.{group_type, group_vlan, group_low, member_id}

-- as code takes the parts out: `id >> 28`, `id >> 16 & 0xfff`, `id & 0xffff`
pub type_by_shift : (id : ℕ) → id / 2 ^ 28 ≡ group_type id
unfolding group_type
type_by_shift id = refl

pub vlan_by_mask : (id : ℕ) → bit_and (id / 2 ^ 16) 0xfff ≡ group_vlan id
unfolding group_vlan
vlan_by_mask id = and_mask (id / 2 ^ 16) 12

pub low_by_mask : (id : ℕ) → bit_and id 0xffff ≡ group_low id
unfolding group_low
low_by_mask id = and_mask id 16

-- the three parts make the ID
pub parts : (id : ℕ) → id ≡ group_type id * 2 ^ 28 + group_vlan id * 2 ^ 16 + group_low id
unfolding group_type group_vlan group_low
parts id = omega arith

-- an ID of type 0 is the one with its VLAN and low bits, so two of one VLAN are one exactly if their low bits are
pub member_is : (id : ℕ) → group_type id ≡ 0 → id ≡ member_id (group_vlan id) (group_low id)
unfolding member_id
member_is id e = omega (arith, parts id)

-- and that one has type 0, the VLAN and the low bits
module _ (vlan low : ℕ) (v : vlan < 4096) (l : low < 65536) where
  pub member_type : group_type (member_id vlan low) ≡ 0
  unfolding member_id group_type
  member_type = omega arith

  pub member_vlan : group_vlan (member_id vlan low) ≡ vlan
  unfolding member_id group_vlan
  member_vlan = omega arith

  pub member_low : group_low (member_id vlan low) ≡ low
  unfolding member_id group_low
  member_low = omega arith

-- the parts are small
pub vlan_below : (id : ℕ) → group_vlan id < 4096
unfolding group_vlan
vlan_below id = omega arith

pub low_below : (id : ℕ) → group_low id < 65536
unfolding group_low
low_below id = omega arith
