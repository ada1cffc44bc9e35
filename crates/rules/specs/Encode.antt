-- Request 2026-06: a command written as a payload. An entry is its list of fields "in rising type", a payload the two fields of the top
-- region, with "zero pads and fill". Decode reads what is written here.
use Rattle.std.specs.Prelude.{ℕ, zero, suc, ◌-◌, Bool, true, ◌&&◌, List, [], ◌∷◌, ◌++◌, length, take, get_or, replicate, eqb}
use Rattle.rules.specs.Choose.{choose, prepend}
use Rattle.rules.specs.Limits.{field_types}
use Rattle.rules.specs.Bytes.{bytes_of, swap16, swapped}
use Rattle.rules.specs.Version.{current, header_bytes}
use Rattle.rules.specs.Region.{length_field, filled}
use Rattle.rules.specs.Address.{prefix_mask, address_in}
use Rattle.rules.specs.Fields.{rule_of, has_user}
use Rattle.rules.specs.GroupId.{group_vlan, group_low, member_id}
use Rattle.rules.specs.declared.FlowEntry.{FlowEntry}
use Rattle.rules.specs.declared.GroupEntry.{GroupEntry}

-- ---- Regions

-- a field's type, and the bytes of its value, as many as its width
pub record Field : Type 0 where
  pub kind : ℕ
  pub bytes : List ℕ

abbrev pub field_of : ℕ → List ℕ → Field
field_of kind bytes = record { kind = kind; bytes = bytes }

-- a TLV: type, length "in the device's own length meaning" and a pad of 0; the value; and 0 up to a multiple of 8
unfoldable pub tlv_of : Field → List ℕ
tlv_of f =
    bytes_of 4 f.kind
    ++ (bytes_of 2 (length_field (header_bytes current) (length f.bytes))
    ++ (bytes_of 2 0
    ++ (f.bytes
    ++ replicate (filled (length f.bytes) - length f.bytes) 0)))

unfoldable pub region_of : List Field → List ℕ
region_of [] = []
region_of (f ∷ fs) = tlv_of f ++ region_of fs

-- the top region: CMD_TYPE and CMD_INFO
unfoldable pub payload_of : ℕ → List Field → List ℕ
payload_of command fields = region_of (field_of 1 (bytes_of 2 command) ∷ field_of 2 (region_of fields) ∷ [])

-- ---- Fields

-- The fields that one who uses them has (Fields: `uses`), of the n types from t on: all that are there, by the bytes of each
module _ (who : ℕ) (has : ℕ → Bool) (bytes : ℕ → List ℕ) where
  unfoldable pub fields_from : ℕ → ℕ → List Field
  fields_from zero t = []
  fields_from (suc n) t = prepend (has_user (rule_of t).uses who && has t) (field_of t (bytes t)) (fields_from n (suc t))

  unfoldable pub fields_of : List Field
  fields_of = fields_from field_types 0

-- a number in the bytes of its field's row
unfoldable pub number_bytes : ℕ → ℕ → List ℕ
number_bytes t v = bytes_of (rule_of t).width v

-- ---- Flows

-- which of its fields are there: GROUP_ID and DST_MAC where given, NEW_VLAN_ID where VLAN_ID is 0; "both times" always
unfoldable pub flow_has : FlowEntry → ℕ → Bool
flow_has e t = choose (eqb t 10) e.has_group (choose (eqb t 19) (eqb e.vlan_id 0) (choose (eqb t 24) e.has_mac true))

-- an address and its mask, numbers of n bytes and w bits (N), in the words of a flow of table 30
abbrev pub address_value : ℕ → ℕ → FlowEntry → ℕ
address_value n w e = swapped n (address_in w e.address_high e.address_low)

abbrev pub mask_value : ℕ → ℕ → FlowEntry → ℕ
mask_value n w e = swapped n (prefix_mask w e.prefix)

-- the number of a field of a flow; VLANs and ETHERTYPE are (N)
unfoldable pub flow_value : FlowEntry → ℕ → ℕ
flow_value e t =
    choose (eqb t 1) e.table
    (choose (eqb t 2) e.priority
    (choose (eqb t 3) e.hardtime
    (choose (eqb t 4) e.idletime
    (choose (eqb t 5) e.cookie
    (choose (eqb t 6) e.in_pport
    (choose (eqb t 7) e.in_pport_mask
    (choose (eqb t 9) e.goto_tbl
    (choose (eqb t 10) e.group_id
    (choose (eqb t 14) (swap16 e.vlan_id)
    (choose (eqb t 19) (swap16 e.new_vlan_id)
    (choose (eqb t 23) (swap16 e.ethertype)
    (choose (eqb t 24) e.dst_mac
    (choose (eqb t 36) (address_value 4 32 e)
    (choose (eqb t 37) (mask_value 4 32 e)
    (choose (eqb t 38) (address_value 16 128 e)
    (choose (eqb t 39) (mask_value 16 128 e) 0))))))))))))))))

unfoldable pub flow_bytes : FlowEntry → ℕ → List ℕ
flow_bytes e t = number_bytes t (flow_value e t)

-- the fields of a flow for one who uses them: add and mod of its table, or del
unfoldable pub flow_fields : ℕ → FlowEntry → List Field
flow_fields who e = fields_of who (flow_has e) (flow_bytes e)

-- ---- Groups

-- the members of GROUP_IDS from the k-th on: type k, the ID with the group's VLAN
unfoldable pub member_fields : ℕ → ℕ → List ℕ → List Field
member_fields vlan k [] = []
member_fields vlan k (low ∷ lows) = field_of k (bytes_of (rule_of k).member_width (member_id vlan low)) ∷ member_fields vlan (suc k) lows

-- the number of a field of a group. OUT_PPORT is not stored: it is the ID's low bits. GROUP_ID_LOWER is the one member of type 2, with its VLAN
unfoldable pub group_value : GroupEntry → ℕ → ℕ
group_value e t =
    choose (eqb t 8) (group_low e.id)
    (choose (eqb t 10) e.id
    (choose (eqb t 11) (member_id e.vlan_id (get_or e.members 0 0))
    (choose (eqb t 12) e.member_count
    (choose (eqb t 14) (swap16 e.vlan_id)
    (choose (eqb t 24) e.dst_mac
    (choose (eqb t 26) e.src_mac
    (choose (eqb t 43) (choose e.pop_vlan 1 0) 0)))))))

unfoldable pub group_bytes : GroupEntry → ℕ → List ℕ
group_bytes e t =
    choose (eqb t 13) (region_of (member_fields (group_vlan e.id) 1 (take e.member_count e.members))) (number_bytes t (group_value e t))

-- the fields of a group for one who uses them: add and mod of its type, or del
unfoldable pub group_fields : ℕ → GroupEntry → List Field
group_fields who e = fields_of who (λ t. true) (group_bytes e)
