-- The entries that decoding admits for so many ports, of a device or of a journal of any version: what a table may hold. Written of an entry
-- as it is stored, so that it can be kept as an invariant; an admitted entry is the one that its own payload decodes to (proofs/Flows.antt,
-- proofs/Groups.antt).
use Rattle.std.specs.Prelude.{ℕ, ◌≤◌, ◌<◌, ◌^◌, Bool, true, false, ◌&&◌, ◌≡◌, List, [], ◌∷◌, ◌++◌, length, get_or, eqb}
use Rattle.rules.specs.Choose.{choose}
use Rattle.rules.specs.Limits.{max_ports}
use Rattle.rules.specs.Version.{current}
use Rattle.rules.specs.Address.{address_bits, aligned_high, aligned_low, address_in}
use Rattle.rules.specs.GroupId.{group_type, group_low, vlan_allowed, group_id_allowed}
use Rattle.rules.specs.Members.{elem, pad}
use Rattle.rules.specs.Registers.{current_terms}
use Rattle.rules.specs.Decode.{match_allowed, is_table}
use Rattle.rules.specs.Tables.{Tables, flow_entry}
use Rattle.rules.specs.declared.Match.{Match}
use Rattle.rules.specs.declared.Match.TheVariants.{IngressPort, Vlan, TerminationMac, UnicastRouting, Bridging}
use Rattle.rules.specs.declared.Flow.{Flow}
use Rattle.rules.specs.declared.FlowEntry.{FlowEntry}
use Rattle.rules.specs.declared.GroupEntry.{GroupEntry}

-- every number of a list is a byte
abbrev pub AreBytes : List ℕ → Type 0
AreBytes s = (j : ℕ) → get_or s j 0 < 256

-- ---- Flows

-- the command's flow that an entry was stored from
unfoldable pub match_in : FlowEntry → Match
match_in e =
    choose (eqb e.table 0) (IngressPort e.in_pport e.in_pport_mask)
    (choose (eqb e.table 10) (Vlan e.in_pport e.vlan_id e.new_vlan_id)
    (choose (eqb e.table 20) (TerminationMac e.in_pport e.ethertype e.dst_mac e.vlan_id)
    (choose (eqb e.table 30) (UnicastRouting e.ethertype e.address_high e.address_low e.prefix e.has_group e.group_id)
    (Bridging e.vlan_id e.has_mac e.dst_mac e.has_group e.group_id))))

unfoldable pub flow_in : FlowEntry → Flow
flow_in e =
    record { cookie = e.cookie; priority = e.priority; hardtime = e.hardtime; idletime = e.idletime; goto_tbl = e.goto_tbl; matching = match_in e }

-- NEW_VLAN_ID is there
unfoldable pub has_new : FlowEntry → Bool
has_new e = eqb e.table 10 && eqb e.vlan_id 0

-- how many bits its address has
abbrev pub bits_of : FlowEntry → ℕ
bits_of e = address_bits e.ethertype

-- the address that stands in its two words
abbrev pub destination : FlowEntry → ℕ
destination e = address_in (bits_of e) e.address_high e.address_low

pub record FlowAdmitted (ports : ℕ) (e : FlowEntry) : Type 0 where
  pub is_table : is_table current e.table ≡ true
  -- nothing is lost in the bytes of a field
  pub cookie_fits : e.cookie < 2 ^ 64
  pub mac_fits : e.dst_mac < 2 ^ 48
  pub priority_fits : e.priority < 2 ^ 32
  pub hardtime_fits : e.hardtime < 2 ^ 32
  pub idletime_fits : e.idletime < 2 ^ 32
  pub port_fits : e.in_pport < 2 ^ 32
  pub mask_fits : e.in_pport_mask < 2 ^ 32
  pub group_fits : e.group_id < 2 ^ 32
  pub goto_fits : e.goto_tbl < 2 ^ 16
  pub vlan_fits : e.vlan_id < 2 ^ 16
  pub new_fits : e.new_vlan_id < 2 ^ 16
  pub ethertype_fits : e.ethertype < 2 ^ 16
  pub address_fits : destination e < 2 ^ bits_of e
  -- an address stands in the upper bits of its words, and 0 below it
  pub high_aligned : aligned_high (bits_of e) (destination e) ≡ e.address_high
  pub low_aligned : aligned_low (bits_of e) (destination e) ≡ e.address_low
  -- fields that its table does not have are 0, and so are those that were not given
  pub stored : flow_entry (flow_in e) ≡ e
  pub no_new : has_new e ≡ false → e.new_vlan_id ≡ 0
  pub no_mac : e.has_mac ≡ false → e.dst_mac ≡ 0
  pub no_group : e.has_group ≡ false → e.group_id ≡ 0
  -- the ranges of its table
  pub allowed : match_allowed (current_terms ports) e.goto_tbl (has_new e) (match_in e) ≡ true

-- ---- Groups

-- none of the second list is among those before it
abbrev pub Fresh : List ℕ → List ℕ → Type 0
Fresh before [] = Unit
Fresh before (l ∷ ls) = (elem l before ≡ false) × Fresh (before ++ (l ∷ [])) ls

pub record GroupAdmitted (ports : ℕ) (e : GroupEntry) : Type 0 where
  pub id_fits : e.id < 2 ^ 32
  pub id_allowed : group_id_allowed current e.id ≡ true
  pub vlan_fits : e.vlan_id < 2 ^ 16
  pub src_fits : e.src_mac < 2 ^ 48
  pub dst_fits : e.dst_mac < 2 ^ 48
  -- its members' low bits, no two alike
  pub lows : List ℕ
  pub members_are : e.members ≡ pad lows
  pub count_is : e.member_count ≡ length lows
  pub lows_fit : (j : ℕ) → get_or lows j 0 < 2 ^ 16
  pub fresh : Fresh [] lows
  pub at_most : length lows ≤ max_ports
  -- type 0: no members, and a port that the device has, or 0
  pub single : group_type e.id ≡ 0 → (lows ≡ []) × (group_low e.id ≤ ports)
  -- type 2: one member, of its VLAN
  pub routing : group_type e.id ≡ 2 → (length lows ≡ 1) × (vlan_allowed e.vlan_id ≡ true) × (e.pop_vlan ≡ false)
  -- types 3 and 4
  pub many : (group_type e.id ≡ 0 → ⊥) → (group_type e.id ≡ 2 → ⊥) → (1 ≤ length lows) × (e.pop_vlan ≡ false)
  -- fields that its type does not have are 0
  pub no_routing : (group_type e.id ≡ 2 → ⊥) → (e.vlan_id ≡ 0) × (e.src_mac ≡ 0) × (e.dst_mac ≡ 0)

-- ---- Tables

-- every entry of a list
abbrev pub Each : {A : Type 0} → (A → Type 0) → List A → Type 0
Each P [] = Unit
Each P (e ∷ es) = P e × Each P es

pub record Admitted (ports : ℕ) (t : Tables) : Type 0 where
  pub flows_are : Each (FlowAdmitted ports) t.flows
  pub groups_are : Each (GroupAdmitted ports) t.groups
