-- "TLV regions and commands": a payload decoded, or the status of its first fault.
use Rattle.std.specs.Prelude.{ℕ, suc, ◌%◌, Bool, true, false, not, ◌&&◌, ◌||◌, List, [], ◌∷◌, leb, eqb}
use Rattle.rules.specs.Choose.{choose}
use Rattle.rules.specs.Bytes.{swap16, swapped}
use Rattle.rules.specs.Version.{header_bytes, routes}
use Rattle.rules.specs.Region.{well_formed, lookup}
use Rattle.rules.specs.Address.{prefix_length, is_ipv6, is_routed_type, address_bytes, address_bits, aligned_high, aligned_low, is_unicast}
use Rattle.rules.specs.Fields.{field, given, value, fields_right, is_at, is_absent, number_in, nest_in, flow0, flow10, flow20, flow30v4, flow30v6, flow50, flow_del, group0, group2, group_many, group_del}
use Rattle.rules.specs.GroupId.{group_type, group_vlan, group_low, vlan_allowed, has_members, is_routing, group_id_allowed}
use Rattle.rules.specs.Members.{Collected, members_in, members_right, pad}
use Rattle.rules.specs.declared.Terms.{Terms}
use Rattle.rules.specs.declared.Found.{Found}
use Rattle.rules.specs.declared.Status.{Status}
use Rattle.rules.specs.declared.Status.TheVariants.{Einval, Enotsup}
use Rattle.rules.specs.declared.Group.{Group}
use Rattle.rules.specs.declared.Match.{Match}
use Rattle.rules.specs.declared.Match.TheVariants.{IngressPort, Vlan, TerminationMac, UnicastRouting, Bridging}
use Rattle.rules.specs.declared.Flow.{Flow}
use Rattle.rules.specs.declared.Command.{Command}
use Rattle.rules.specs.declared.Command.TheVariants.{FlowAdd, FlowMod, FlowDel, GroupAdd, GroupMod, GroupDel}
use Rattle.std.specs.Prelude.{Ok as Carry, Err as Refused}
use Rattle.rules.specs.declared.Decoding.{Decoding}

unfoldable pub refused : Status → Decoding
refused e = record { what = Refused e; members = pad [] }

unfoldable pub carried : Command → List ℕ → Decoding
carried c lows = record { what = Carry c; members = pad lows }

-- a test that has to hold, or else a status: a chain of these is an order of faults
unfoldable pub need : Bool → Status → Decoding → Decoding
need test e d = choose test d (refused e)

-- how many header bytes a TLV's length counts under these terms, in all regions of a payload: "Everything that walks a region follows"
abbrev pub header_of : Terms → ℕ
header_of terms = header_bytes terms.version

-- ---- Flows

-- ETHERTYPE is (N)
unfoldable pub ethertype_in : ℕ → List ℕ → ℕ
ethertype_in h s = swap16 (value h s 23)

-- the types of an address and of its mask, "exactly" those of its ETHERTYPE: 36 and 37, or 38 and 39
unfoldable pub address_field : ℕ → ℕ
address_field ethertype = choose (is_ipv6 ethertype) 38 36

unfoldable pub mask_field : ℕ → ℕ
mask_field ethertype = suc (address_field ethertype)

-- "the other pair is EINVAL": it has to be absent, whatever its width
unfoldable pub other_absent : ℕ → List ℕ → ℕ → Bool
other_absent h s ethertype =
    choose (is_ipv6 ethertype) (is_absent (field h s 36) && is_absent (field h s 37)) (is_absent (field h s 38) && is_absent (field h s 39))

-- an address or a mask, the number of its bytes (N)
unfoldable pub address_of : ℕ → List ℕ → ℕ → ℕ → ℕ
address_of h s ethertype t = swapped (address_bytes ethertype) (value h s t)

-- what a flow of table 30 compares: the address "as given", and the length of its mask
unfoldable pub route_of : ℕ → List ℕ → ℕ → Match
route_of h s ethertype =
    let w = address_bits ethertype in
    let a = address_of h s ethertype (address_field ethertype) in
    UnicastRouting ethertype (aligned_high w a) (aligned_low w a) (prefix_length w (address_of h s ethertype (mask_field ethertype))) (given h s 10) (value h s 10)

-- what a flow compares, by its table. The fields that a table does not list are left out; VLANs are (N).
unfoldable pub match_of : ℕ → List ℕ → ℕ → Match
match_of h s t =
    choose (eqb t 0) (IngressPort (value h s 6) (value h s 7))
    (choose (eqb t 10) (Vlan (value h s 6) (swap16 (value h s 14)) (swap16 (value h s 19)))
    (choose (eqb t 20) (TerminationMac (value h s 6) (ethertype_in h s) (value h s 24) (swap16 (value h s 14)))
    (choose (eqb t 30) (route_of h s (ethertype_in h s))
    (Bridging (swap16 (value h s 14)) (given h s 24) (value h s 24) (given h s 10) (value h s 10)))))

-- the two times "default to 0"
unfoldable pub flow_of : ℕ → List ℕ → ℕ → Flow
flow_of h s t =
    record { cookie = value h s 5; priority = value h s 2; hardtime = value h s 3; idletime = value h s 4; goto_tbl = value h s 9; matching = match_of h s t }

-- a given group has the flow's VLAN, and the type that its MAC asks for; whether the group exists is not asked
unfoldable pub group_fits : ℕ → Bool → ℕ → ℕ → Bool
group_fits vlan has_mac mac id =
    eqb (group_vlan id) vlan
    && choose has_mac (choose (eqb (mac % 2) 0) (eqb (group_type id) 0) (has_members (group_type id))) (eqb (group_type id) 4)

-- NEW_VLAN_ID is there "exactly if VLAN_ID is 0"
unfoldable pub new_vlan_fits : ℕ → Bool → ℕ → Bool
new_vlan_fits vlan has_new new = choose (eqb vlan 0) (has_new && vlan_allowed new) (not has_new && vlan_allowed vlan)

-- the ranges of a flow's fields, by its table: where it may go, a port that the device has, its VLANs, its ETHERTYPE, a mask that is a prefix,
-- a unicast address, its group
unfoldable pub match_allowed : Terms → ℕ → Bool → Match → Bool
match_allowed terms goto has_new (IngressPort p m) = eqb goto 10 || eqb goto 0
match_allowed terms goto has_new (Vlan p v n) = leb 1 p && leb p terms.ports && (eqb goto 20 || eqb goto 0) && new_vlan_fits v has_new n
match_allowed terms goto has_new (TerminationMac p ethertype mac v) = leb 1 p && leb p terms.ports && is_routed_type ethertype && vlan_allowed v && eqb goto 30
match_allowed terms goto has_new (UnicastRouting ethertype high low prefix hg id) =
    is_routed_type ethertype && leb prefix (address_bits ethertype) && is_unicast ethertype high && (eqb goto 60 || eqb goto 0) && (not hg || is_routing (group_type id))
match_allowed terms goto has_new (Bridging v hm m hg id) = vlan_allowed v && (eqb goto 60 || eqb goto 0) && (not hg || group_fits v hm m id)

unfoldable pub flow_user : ℕ → ℕ → ℕ
flow_user t ethertype =
    choose (eqb t 0) flow0
    (choose (eqb t 10) flow10
    (choose (eqb t 20) flow20
    (choose (eqb t 30) (choose (is_ipv6 ethertype) flow30v6 flow30v4)
    flow50)))

-- the tables that flows may be put into; 20 and 30 are there from the version on that has them
unfoldable pub is_table : ℕ → ℕ → Bool
is_table version t = eqb t 0 || eqb t 10 || eqb t 50 || (routes version && (eqb t 20 || eqb t 30))

-- table 30 has no field of the other pair
unfoldable pub pair_alone : ℕ → List ℕ → ℕ → Bool
pair_alone h s t = not (eqb t 30) || other_absent h s (ethertype_in h s)

-- add and mod: TBL is looked at first, and one that is given but unknown is ENOTSUP; then the other fields
unfoldable pub flow_in : Terms → List ℕ → (Flow → Command) → Decoding
flow_in terms s make =
    let h = header_of terms in
    need (given h s 1) Einval
    (need (is_table terms.version (value h s 1)) Enotsup
    (need (fields_right h s (flow_user (value h s 1) (ethertype_in h s)) && pair_alone h s (value h s 1) && match_allowed terms (value h s 9) (given h s 19) (match_of h s (value h s 1))) Einval
    (carried (make (flow_of h s (value h s 1))) [])))

-- the key of a flow
unfoldable pub flow_key_in : Terms → List ℕ → Decoding
flow_key_in terms s =
    let h = header_of terms in
    need (fields_right h s flow_del) Einval (carried (FlowDel (value h s 5)) [])

-- ---- Groups

-- a group's own fields; what its type does not use is not read. Type 2 has one member, the lower group
unfoldable pub group_of : ℕ → List ℕ → ℕ → Group
group_of h s id =
    choose (eqb (group_type id) 0) (record { id = id; pop_vlan = eqb (value h s 43) 1; member_count = 0; vlan_id = 0; src_mac = 0; dst_mac = 0 })
    (choose (is_routing (group_type id)) (record { id = id; pop_vlan = false; member_count = 1; vlan_id = swap16 (value h s 14); src_mac = value h s 26; dst_mac = value h s 24 })
    (record { id = id; pop_vlan = false; member_count = value h s 12; vlan_id = 0; src_mac = 0; dst_mac = 0 }))

unfoldable pub members_of : ℕ → List ℕ → ℕ → Collected
members_of h s id =
    choose (eqb (group_type id) 0) (record { right = true; lows = [] })
    (choose (is_routing (group_type id)) (record { right = true; lows = group_low (value h s 11) ∷ [] })
    (members_in h (nest_in s (field h s 13)) (group_vlan id)))

-- the lower group of a group of type 2: "a type 0 group of that VLAN"
unfoldable pub lower_fits : ℕ → ℕ → Bool
lower_fits vlan lower = vlan_allowed vlan && eqb (group_type lower) 0 && eqb (group_vlan lower) vlan

-- the ranges of a group's fields: of type 0, OUT_PPORT is the ID's low bits and a port that the device has, or 0; of type 2, the VLAN and the
-- lower group; of types 3 and 4, the members
unfoldable pub group_allowed : Terms → List ℕ → ℕ → Collected → Bool
group_allowed terms s id c =
    let h = header_of terms in
    group_id_allowed terms.version id
    && choose (eqb (group_type id) 0) (eqb (value h s 8) (group_low id) && leb (value h s 8) terms.ports && leb (value h s 43) 1)
    (choose (is_routing (group_type id)) (lower_fits (swap16 (value h s 14)) (value h s 11)) (members_right (value h s 12) c))

unfoldable pub group_user : ℕ → ℕ
group_user id = choose (eqb (group_type id) 0) group0 (choose (is_routing (group_type id)) group2 group_many)

-- add and mod
unfoldable pub group_in : Terms → List ℕ → (Group → Command) → Decoding
group_in terms s make =
    let h = header_of terms in
    need (fields_right h s (group_user (value h s 10)) && group_allowed terms s (value h s 10) (members_of h s (value h s 10))) Einval
    (carried (make (group_of h s (value h s 10))) (members_of h s (value h s 10)).lows)

-- the key of a group
unfoldable pub group_key_in : Terms → List ℕ → Decoding
group_key_in terms s =
    let h = header_of terms in
    need (fields_right h s group_del && group_id_allowed terms.version (value h s 10)) Einval (carried (GroupDel (value h s 10)) [])

-- ---- Payloads

-- "CMD_TYPE": flow add, mod, del are 3, 4, 5; group add, mod, del are 7, 8, 9
unfoldable pub is_command : ℕ → Bool
is_command c = eqb c 3 || eqb c 4 || eqb c 5 || eqb c 7 || eqb c 8 || eqb c 9

unfoldable pub command_in : Terms → ℕ → List ℕ → Decoding
command_in terms c s =
    choose (eqb c 3) (flow_in terms s FlowAdd)
    (choose (eqb c 4) (flow_in terms s FlowMod)
    (choose (eqb c 5) (flow_key_in terms s)
    (choose (eqb c 7) (group_in terms s GroupAdd)
    (choose (eqb c 8) (group_in terms s GroupMod)
    (group_key_in terms s)))))

-- the two fields of the "top" region: CMD_TYPE of two bytes, CMD_INFO a nest
unfoldable pub command_type : ℕ → List ℕ → Found
command_type h s = lookup h s 1 2

unfoldable pub command_info : ℕ → List ℕ → Found
command_info h s = lookup h s 2 0

-- the "order" of faults: the top region and its two fields; the command; the nest's form; what stands in it
unfoldable pub decode : Terms → List ℕ → Decoding
decode terms s =
    let h = header_of terms in
    need (well_formed h s && is_at (command_type h s) && is_at (command_info h s)) Einval
    (need (is_command (number_in s 2 (command_type h s))) Enotsup
    (need (well_formed h (nest_in s (command_info h s))) Einval
    (command_in terms (number_in s 2 (command_type h s)) (nest_in s (command_info h s)))))
