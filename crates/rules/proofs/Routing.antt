-- Points of request 2026-03, computed by the rules: masks, commands under the versions that have them and that have not, and frames of a
-- switch whose routes overlap. One table, one test, one theorem.
-- Assumes nothing.
use Prim.Native.Nat.{ℕ, ◌-◌, ◌*◌, ◌^◌}
use mathlib.Core.Path.{◌≡◌, refl}
use mathlib.Core.Bool.{Bool, true, false}
use mathlib.Core.List.{List, [], ◌∷◌, ◌++◌}
use lib.ListN.{replicate}
use Rattle.rules.specs.Answers.{code}
use Rattle.rules.specs.Bytes.{le, le_at, bytes_of, swap16, swapped, part, bit}
use Rattle.rules.specs.Ring.{zero_ring}
use Rattle.rules.specs.Registers.{port_allowed, is_up}
use Rattle.rules.specs.Version.{header_counted, header_bytes, routes}
use Rattle.rules.specs.Region.{value_size, length_field, filled, tlv_at, tlv_end, is_tlv, step_at, walk, tlvs, end_of, well_formed, fits_width, meet, scan, lookup}
use Rattle.rules.specs.Address.{prefix_mask, agree, length_from, prefix_length, is_ipv6, is_routed_type, address_bytes, address_bits, aligned_high, aligned_low, address_in, is_unicast}
use Rattle.rules.specs.Fields.{rows, member_width, rule_in, rule_of, field, is_at, is_absent, number_in, nest_in, given, value, right, has_user, field_right, every_below, fields_right}
use Rattle.rules.specs.GroupId.{group_type, group_vlan, group_low, vlan_allowed, has_members, is_routing, group_id_allowed, member_id}
use Rattle.rules.specs.Members.{elem, member_right, collect, members_in, members_right, pad}
use Rattle.rules.specs.Decode.{refused, carried, need, ethertype_in, address_field, mask_field, other_absent, address_of, route_of, match_of, flow_of, group_fits, new_vlan_fits, match_allowed, flow_user, is_table, pair_alone, flow_in, flow_key_in, group_of, members_of, lower_fits, group_allowed, group_user, group_in, group_key_in, is_command, command_in, command_type, command_info, decode}
use Rattle.rules.specs.Keyed.{position, holds, find, insert, replace, remove}
use Rattle.rules.specs.Tables.{Tables, stored_flow, flow_entry, group_entry, empty_tables, add_status, held_status, command_status_in, with_flows, with_groups, command_effect_in, decoded_status_in, decoded_effect_in, executed, carry_out_in, execute, execute_in}
use Rattle.rules.specs.Engine.{decides_best}
use Rattle.rules.specs.Frame.{is_tagged, frame_vlan, frame_mac, frame_type, after_type, is_routable, frame_address, headers_of, best, beats, matches0, matches10, matches20, matches30, matches50, exit_of, from_table50, from_table30, after_table20, from_table20, after_table10, from_table10, passes_table0, way_of, way, output_of, output_if, member_outputs, group_outputs, found_outputs, exit_outputs, is_kept, keep, outputs, mac_numbers, copy_of, numbers_of}
use Rattle.rules.specs.Encode.{Field, field_of, tlv_of, region_of, payload_of}
use Rattle.rules.specs.declared.Registers.{Registers}
use Rattle.rules.specs.declared.Match.{Match}
use Rattle.rules.specs.declared.Match.TheVariants.{Vlan, TerminationMac, UnicastRouting, Bridging}
use Rattle.rules.specs.declared.FlowEntry.{FlowEntry}
use Rattle.rules.specs.declared.GroupEntry.{GroupEntry}
use Rattle.rules.proofs.PointTable.{Point, point, all}

-- ---- Commands

-- a flow add with table 30 and these fields behind the common ones, in version v on 4 ports: its status
added : ℕ → List Field → ℕ
added v fields =
    let head = field_of 1 (bytes_of 2 30) ∷ field_of 2 (bytes_of 4 0) ∷ field_of 5 (bytes_of 8 7) ∷ field_of 9 (bytes_of 2 60) ∷ [] in
    code (execute (record { ports = 4; version = v }) (payload_of 3 (head ++ fields)) empty_tables).status

-- a route of IPv4 by the bytes of its address and mask, first byte first
route : ℕ → List ℕ → List ℕ → List Field → ℕ
route v address mask more = added v (field_of 23 (0x08 ∷ 0x00 ∷ []) ∷ field_of 36 address ∷ field_of 37 mask ∷ more)

-- a group add of type 2 with a VLAN (N) and a lower group
neighbour : ℕ → ℕ → ℕ → ℕ
neighbour v vlan lower =
    code
    (execute (record { ports = 4; version = v })
    (payload_of 7
    (field_of 10 (bytes_of 4 0x2FFFFFFF) ∷ field_of 11 (bytes_of 4 lower) ∷ field_of 14 (0 ∷ vlan ∷ []) ∷ field_of 24 (bytes_of 6 1) ∷ field_of 26 (bytes_of 6 2) ∷ []))
    empty_tables).status

-- ---- Frames

-- two ports, both up and enabled
registers : Registers
registers =
    record { switch_id = 0; links = 6; enable = 6; test_reg64 = 0; ports = 2; enable_latch = 0; test_latch = 0; test_reg = 0; ring = zero_ring }

flow : ℕ → ℕ → ℕ → Match → FlowEntry
flow cookie priority goto m = flow_entry (record { cookie = cookie; priority = priority; hardtime = 0; idletime = 0; goto_tbl = goto; matching = m })

single : ℕ → Bool → GroupEntry
single id pop = record { id = id; pop_vlan = pop; member_count = 0; vlan_id = 0; src_mac = 0; dst_mac = 0; members = pad [] }

-- the MACs 01:02:03:04:05:06 and 11:12:13:14:15:16
routing : ℕ → ℕ → ℕ → GroupEntry
routing id vlan low =
    record { id = id; pop_vlan = false; member_count = 1; vlan_id = vlan; src_mac = 0x060504030201; dst_mac = 0x161514131211; members = pad (low ∷ []) }

-- untagged frames of port 1 are in VLAN 1; the router's MAC is 02:00:00:00:00:01; 10.0.0.0/8 goes to VLAN 3 on port 2, 10.1.0.0/16, of lower
-- priority, to VLAN 2 on port 1; another MAC is bridged to port 2
tables : Tables
tables =
    record {
      flows = flow 1 0 20 (Vlan 1 0 1)
          ∷ flow 2 0 30 (TerminationMac 1 0x0800 0x010000000002 1)
          ∷ flow 3 9 60 (UnicastRouting 0x0800 (0x0A000000 * 2 ^ 32) 0 8 true 0x20000008)
          ∷ flow 4 1 60 (UnicastRouting 0x0800 (0x0A010000 * 2 ^ 32) 0 16 true 0x20000010)
          ∷ flow 5 0 60 (Bridging 1 true 0x020000000002 true 0x00010002)
          ∷ [];
      groups = single 0x00010002 false
          ∷ single 0x00020001 true
          ∷ single 0x00030002 false
          ∷ routing 0x20000008 3 2
          ∷ routing 0x20000010 2 1
          ∷ [];
    }

-- a frame to the MAC 02:00:00:00:00:n and to an address, with a header of 20 bytes
frame : ℕ → List ℕ → List ℕ
frame n address = 2 ∷ 0 ∷ 0 ∷ 0 ∷ 0 ∷ n ∷ 2 ∷ 0 ∷ 0 ∷ 0 ∷ 0 ∷ 9 ∷ 0x08 ∷ 0x00 ∷ (replicate 16 0 ++ address)

-- what goes out of a frame that comes in on port 1
sent : List ℕ → List ℕ
sent f = numbers_of (outputs registers (decides_best tables.flows) tables.groups 1 f)

-- ---- The table

points : List Point
points =
    point (prefix_length 32 0 ∷ prefix_length 32 0xFFFFFF00 ∷ prefix_length 32 0xFFFFFFFF ∷ []) (0 ∷ 24 ∷ 32 ∷ [])
    ∷ point (prefix_length 32 0xFF00FF00 ∷ prefix_length 32 1 ∷ []) (33 ∷ 33 ∷ [])  -- "only prefix masks"
    ∷ point (prefix_length 128 (2 ^ 128 - 2 ^ 64) ∷ prefix_length 128 (2 ^ 128 - 1) ∷ prefix_length 128 (2 ^ 64) ∷ []) (64 ∷ 128 ∷ 129 ∷ [])
    ∷ point (route 3 (10 ∷ 1 ∷ 2 ∷ 3 ∷ []) (255 ∷ 255 ∷ 0 ∷ 0 ∷ []) [] ∷ []) (0 ∷ [])
    ∷ point (route 2 (10 ∷ 1 ∷ 2 ∷ 3 ∷ []) (255 ∷ 255 ∷ 0 ∷ 0 ∷ []) [] ∷ []) (95 ∷ [])  -- "older ones have neither"
    ∷ point (route 3 (10 ∷ 1 ∷ 2 ∷ 3 ∷ []) (255 ∷ 0 ∷ 255 ∷ 0 ∷ []) [] ∷ []) (22 ∷ [])
    ∷ point (route 3 (223 ∷ 0 ∷ 0 ∷ 0 ∷ []) (0 ∷ 0 ∷ 0 ∷ 0 ∷ []) [] ∷ route 3 (224 ∷ 0 ∷ 0 ∷ 0 ∷ []) (0 ∷ 0 ∷ 0 ∷ 0 ∷ []) [] ∷ []) (0 ∷ 22 ∷ [])  -- "first byte under 224"
    ∷ point (route 3 (0 ∷ 0 ∷ 0 ∷ 0 ∷ []) (0 ∷ 0 ∷ 0 ∷ 0 ∷ []) (field_of 38 (1 ∷ []) ∷ []) ∷ []) (22 ∷ [])  -- "the other pair"
    ∷ point (added 3 (field_of 23 (0x86 ∷ 0xDD ∷ []) ∷ field_of 38 (0xFE ∷ replicate 15 0) ∷ field_of 39 (replicate 16 255) ∷ []) ∷ []) (0 ∷ [])
    ∷ point (added 3 (field_of 23 (0x86 ∷ 0xDD ∷ []) ∷ field_of 38 (0xFF ∷ replicate 15 0) ∷ field_of 39 (replicate 16 0) ∷ []) ∷ []) (22 ∷ [])
    ∷ point (neighbour 3 5 0x00050009 ∷ neighbour 3 5 0x00060009 ∷ neighbour 3 5 0x30050009 ∷ []) (0 ∷ 22 ∷ 22 ∷ [])  -- "of that VLAN"
    ∷ point (neighbour 2 5 0x00050009 ∷ []) (22 ∷ [])
    -- "longest prefix", whatever the priority; "may leave by its ingress port"; source MAC, then destination
    ∷ point (sent (frame 1 (10 ∷ 1 ∷ 2 ∷ 3 ∷ []))) (1 ∷ 2 ∷ 1 ∷ 0x0102 ∷ 0x0304 ∷ 0x0506 ∷ 0x1112 ∷ 0x1314 ∷ 0x1516 ∷ [])
    ∷ point (sent (frame 1 (10 ∷ 2 ∷ 2 ∷ 3 ∷ []))) (2 ∷ 3 ∷ 0 ∷ 0x0102 ∷ 0x0304 ∷ 0x0506 ∷ 0x1112 ∷ 0x1314 ∷ 0x1516 ∷ [])
    ∷ point (sent (frame 1 (11 ∷ 0 ∷ 0 ∷ 1 ∷ []))) []  -- "A miss in 30"
    ∷ point (sent (frame 1 (10 ∷ 1 ∷ 2 ∷ []))) []  -- "under 20"
    ∷ point (sent (frame 2 (10 ∷ 1 ∷ 2 ∷ []))) (2 ∷ 1 ∷ 0 ∷ 0 ∷ 0 ∷ 0 ∷ 0 ∷ 0 ∷ 0 ∷ [])  -- "0 where bridged"
    ∷ []

points_hold : all points ≡ true
unfolding points added route neighbour registers flow single routing tables frame sent code le le_at bytes_of swap16 swapped part bit zero_ring is_up port_allowed header_counted header_bytes routes value_size length_field filled tlv_at tlv_end is_tlv step_at walk tlvs end_of well_formed fits_width meet scan lookup prefix_mask agree length_from prefix_length is_ipv6 is_routed_type address_bytes address_bits aligned_high aligned_low address_in is_unicast rows member_width rule_in rule_of field is_at is_absent number_in nest_in given value right has_user field_right every_below fields_right group_type group_vlan group_low vlan_allowed has_members is_routing group_id_allowed member_id elem member_right collect members_in members_right pad refused carried need ethertype_in address_field mask_field other_absent address_of route_of match_of flow_of group_fits new_vlan_fits match_allowed flow_user is_table pair_alone flow_in flow_key_in group_of members_of lower_fits group_allowed group_user group_in group_key_in is_command command_in command_type command_info decode position holds find insert replace remove stored_flow flow_entry group_entry empty_tables add_status held_status command_status_in with_flows with_groups command_effect_in decoded_status_in decoded_effect_in executed carry_out_in execute_in is_tagged frame_vlan frame_mac frame_type after_type is_routable frame_address headers_of best decides_best beats matches0 matches10 matches20 matches30 matches50 exit_of from_table50 from_table30 after_table20 from_table20 after_table10 from_table10 passes_table0 way_of way output_of output_if member_outputs group_outputs found_outputs exit_outputs is_kept keep outputs mac_numbers copy_of numbers_of tlv_of region_of payload_of
points_hold = refl
