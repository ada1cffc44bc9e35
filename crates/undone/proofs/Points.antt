-- Points of request 2026-06 on the worked example of document 01's "The trail", computed by the rules, of a journal of each version: the list
-- has the same bytes, those of a device. And of a night with request 2026-03's entries. One table, one test, one theorem.
-- Assumes nothing.
use Prim.Native.Nat.{ℕ, ◌+◌}
use mathlib.Core.Path.{◌≡◌, refl}
use mathlib.Core.Bool.{true}
use mathlib.Core.List.{List, [], ◌∷◌, ◌++◌}
use lib.ListN.{length, replicate}
use Rattle.rules.specs.Answers.{code}
use Rattle.rules.specs.Bytes.{le, le_at, bytes_of, swap16, swapped, part, inside, splice, bit}
use Rattle.rules.specs.Registers.{port_count_allowed}
use Rattle.rules.specs.Version.{known, header_counted, header_bytes, routes}
use Rattle.rules.specs.Region.{value_size, length_field, filled, tlv_at, tlv_end, is_tlv, step_at, walk, tlvs, end_of, well_formed, fits_width, meet, scan, lookup}
use Rattle.rules.specs.Address.{prefix_mask, length_from, prefix_length, is_ipv6, is_routed_type, address_bytes, address_bits, aligned_high, aligned_low, address_in, is_unicast}
use Rattle.rules.specs.Fields.{rows, member_width, rule_in, rule_of, field, is_at, is_absent, number_in, nest_in, given, value, right, has_user, field_right, every_below, fields_right}
use Rattle.rules.specs.GroupId.{group_type, group_vlan, group_low, vlan_allowed, has_members, is_routing, group_id_allowed, member_id}
use Rattle.rules.specs.Members.{elem, member_right, collect, members_in, members_right, pad}
use Rattle.rules.specs.Decode.{refused, carried, need, ethertype_in, address_field, mask_field, other_absent, address_of, route_of, match_of, flow_of, group_fits, new_vlan_fits, match_allowed, flow_user, is_table, pair_alone, flow_in, flow_key_in, group_of, members_of, lower_fits, group_allowed, group_user, group_in, group_key_in, is_command, command_in, command_type, command_info, decode}
use Rattle.rules.specs.Keyed.{position, holds, find, insert, replace, remove}
use Rattle.rules.specs.Tables.{stored_flow, flow_entry, group_entry, empty_tables, add_status, held_status, command_status_in, with_flows, with_groups, command_effect_in, decoded_status_in, decoded_effect_in, executed, carry_out_in, execute_in}
use Rattle.rules.specs.Journal.{completion, header, record_of, begin, ready, stopped, header_refusal, terms_in, opened, header_read, is_unread, record_agrees, tables_after, counted, record_read, whole, feed, feeds, ends_in, finished, finish, replay, digits, decimal, item, line, report}
use Rattle.rules.specs.Encode.{tlv_of, region_of, payload_of, fields_from, fields_of, number_bytes, flow_has, flow_value, flow_bytes, flow_fields, member_fields, group_value, group_bytes, group_fields}
use Rattle.rules.specs.Undo.{record_size, records_size, first_records, tables_in, tables_then, same_bit, same_list, same_flow, same_group, picked, flow_payload, group_payload, flow_run, group_run, payloads, listed, refused_undo, written_undo, fitted, undo_from, undo, undo_report}
use Rattle.rules.specs.declared.Status.TheVariants.{Ok}
use Rattle.rules.proofs.PointTable.{Point, point, all}

-- ---- What the points are computed from

-- A length counts h header bytes beside the value: 8, and 0 in a journal of version 1

-- CMD_TYPE, and the first bytes of a CMD_INFO of so many bytes
top : ℕ → ℕ → ℕ → List ℕ
top h command size =
    0x01 ∷ 0x00 ∷ 0x00 ∷ 0x00 ∷ (h + 0x02) ∷ 0x00 ∷ 0x00 ∷ 0x00 ∷ command ∷ 0x00 ∷ 0x00 ∷ 0x00 ∷ 0x00 ∷ 0x00 ∷ 0x00 ∷ 0x00
    ∷ 0x02 ∷ 0x00 ∷ 0x00 ∷ 0x00 ∷ (h + size) ∷ 0x00 ∷ 0x00 ∷ 0x00
    ∷ []

-- OUT_PPORT, GROUP_ID and POP_VLAN of the example: a type, a length and a value, whose other bytes are 0
tlv : ℕ → ℕ → ℕ → ℕ → List ℕ
tlv kind field low third = kind ∷ 0x00 ∷ 0x00 ∷ 0x00 ∷ field ∷ 0x00 ∷ 0x00 ∷ 0x00 ∷ low ∷ 0x00 ∷ third ∷ 0x00 ∷ 0x00 ∷ 0x00 ∷ 0x00 ∷ 0x00 ∷ []

out_pport : ℕ → List ℕ
out_pport h = tlv 0x08 (h + 0x04) 0x02 0x00

group_id : ℕ → List ℕ
group_id h = tlv 0x0A (h + 0x04) 0x02 0x05

pop_vlan : ℕ → List ℕ
pop_vlan h = tlv 0x2B (h + 0x01) 0x01 0x00

-- the payload that "adds a group"
adding : ℕ → List ℕ
adding h = top h 7 0x30 ++ (group_id h ++ (out_pport h ++ pop_vlan h))

-- the add that the list has: the same fields "in rising type"
adding_again : ℕ → List ℕ
adding_again h = top h 7 0x30 ++ (out_pport h ++ (group_id h ++ pop_vlan h))

-- a del of that group has "only its key"
deleting : ℕ → List ℕ
deleting h = top h 9 0x10 ++ group_id h

-- "its trail" in a version, and the same with a del of the group behind it
one : ℕ → ℕ → List ℕ
one version h = 0x52 ∷ 0x4B ∷ 0x54 ∷ version ∷ 0x00 ∷ 0x04 ∷ record_of Ok (adding h) 0

two : ℕ → ℕ → List ℕ
two version h = one version h ++ record_of Ok (deleting h) 1

-- ---- Request 2026-03's entries

-- a TLV of the device's version, with its fill
valued : ℕ → List ℕ → List ℕ → List ℕ
valued kind value fill = kind ∷ 0x00 ∷ 0x00 ∷ 0x00 ∷ (8 + length value) ∷ 0x00 ∷ 0x00 ∷ 0x00 ∷ value ++ fill

cookie : ℕ → List ℕ
cookie c = valued 5 (c ∷ 0x00 ∷ 0x00 ∷ 0x00 ∷ 0x00 ∷ 0x00 ∷ 0x00 ∷ 0x00 ∷ []) []

-- a flow add of table 30, in rising type, before the address: to group 0x20000001, priority 1, IDLETIME 9
route : ℕ → ℕ → ℕ → ℕ → List ℕ
route c size first second =
    top 8 3 size
    ++ (valued 1 (30 ∷ 0x00 ∷ []) (replicate 6 0)
    ++ (valued 2 (0x01 ∷ 0x00 ∷ 0x00 ∷ 0x00 ∷ []) (replicate 4 0)
    ++ (valued 3 (replicate 4 0) (replicate 4 0)
    ++ (valued 4 (0x09 ∷ 0x00 ∷ 0x00 ∷ 0x00 ∷ []) (replicate 4 0)
    ++ (cookie c
    ++ (valued 9 (60 ∷ 0x00 ∷ []) (replicate 6 0)
    ++ (valued 10 (0x01 ∷ 0x00 ∷ 0x00 ∷ 0x20 ∷ []) (replicate 4 0)
    ++ valued 23 (first ∷ second ∷ []) (replicate 6 0))))))))

-- 10.1.2.3 with a mask of 20 ones: the address "as given"
route4 : List ℕ
route4 =
    route 1 160 0x08 0x00
    ++ (valued 36 (10 ∷ 1 ∷ 2 ∷ 3 ∷ []) (replicate 4 0)
    ++ valued 37 (0xFF ∷ 0xFF ∷ 0xF0 ∷ 0x00 ∷ []) (replicate 4 0))

-- fd00::7 with a mask of 65 ones
route6 : List ℕ
route6 =
    route 2 176 0x86 0xDD
    ++ (valued 38 (0xFD ∷ replicate 14 0 ++ (0x07 ∷ [])) []
    ++ valued 39 (replicate 8 0xFF ++ (0x80 ∷ replicate 7 0)) [])

-- a group add of type 2: to port 2 in VLAN 5
routing : List ℕ
routing =
    top 8 7 80
    ++ (valued 10 (0x01 ∷ 0x00 ∷ 0x00 ∷ 0x20 ∷ []) (replicate 4 0)
    ++ (valued 11 (0x02 ∷ 0x00 ∷ 0x05 ∷ 0x00 ∷ []) (replicate 4 0)
    ++ (valued 14 (0x00 ∷ 0x05 ∷ []) (replicate 6 0)
    ++ (valued 24 (1 ∷ 2 ∷ 3 ∷ 4 ∷ 5 ∷ 6 ∷ []) (replicate 2 0)
    ++ valued 26 (7 ∷ 8 ∷ 9 ∷ 10 ∷ 11 ∷ 12 ∷ []) (replicate 2 0)))))

-- their dels
removed : ℕ → List ℕ
removed c = top 8 5 0x10 ++ cookie c

unrouting : List ℕ
unrouting = top 8 9 0x10 ++ valued 10 (0x01 ∷ 0x00 ∷ 0x00 ∷ 0x20 ∷ []) (replicate 4 0)

-- a night that adds the three, and one that deletes them again
night : ℕ → List ℕ
night version = 0x52 ∷ 0x4B ∷ 0x54 ∷ version ∷ 0x00 ∷ 0x04 ∷ record_of Ok routing 0 ++ (record_of Ok route6 1 ++ record_of Ok route4 2)

evening : List ℕ
evening = night 3 ++ (record_of Ok (removed 1) 3 ++ (record_of Ok (removed 2) 4 ++ record_of Ok unrouting 5))

-- answer, line, payloads, bytes, and the room, which had 7 in every byte
asked : List ℕ → ℕ → ℕ → List ℕ
asked journal n room =
    let u = undo journal n (replicate room 7) in
    u.answer ∷ u.at ∷ u.count ∷ u.size ∷ u.room

-- ---- The table

-- asked of journals of a version; the list is the device's
undoing : ℕ → ℕ → List Point
undoing version h =
    let once = one version h in
    let twice = two version h in
    let disagrees = once ++ record_of Ok (adding h) 0 in
    point (asked once 0 44) (0 ∷ 0 ∷ 1 ∷ 42 ∷ 40 ∷ 0 ∷ deleting 8 ++ (7 ∷ 7 ∷ []))
    ∷ point (asked once 1 3) (0 ∷ 0 ∷ 0 ∷ 0 ∷ 7 ∷ 7 ∷ 7 ∷ [])
    ∷ point (asked once 2 3) (15 ∷ 0 ∷ 0 ∷ 0 ∷ 7 ∷ 7 ∷ 7 ∷ [])
    ∷ point (asked once 0 41) (16 ∷ 0 ∷ 0 ∷ 0 ∷ replicate 41 7)
    ∷ point (asked twice 1 74) (0 ∷ 0 ∷ 1 ∷ 74 ∷ 72 ∷ 0 ∷ adding_again 8)
    ∷ point (asked twice 0 0) (0 ∷ 0 ∷ 0 ∷ 0 ∷ [])
    ∷ point (asked disagrees 0 1) (14 ∷ 2 ∷ 0 ∷ 0 ∷ 7 ∷ [])
    ∷ point (asked (once ++ (0 ∷ [])) 9 1) (10 ∷ 2 ∷ 0 ∷ 0 ∷ 7 ∷ [])
    -- payloads 1, bytes 42; refused 15; refused 14 line 2
    ∷ point (undo_report (undo once 0 (replicate 42 7))) (112 ∷ 97 ∷ 121 ∷ 108 ∷ 111 ∷ 97 ∷ 100 ∷ 115 ∷ 32 ∷ 49 ∷ 10 ∷ 98 ∷ 121 ∷ 116 ∷ 101 ∷ 115 ∷ 32 ∷ 52 ∷ 50 ∷ 10 ∷ [])
    ∷ point (undo_report (undo once 2 [])) (114 ∷ 101 ∷ 102 ∷ 117 ∷ 115 ∷ 101 ∷ 100 ∷ 32 ∷ 49 ∷ 53 ∷ 10 ∷ [])
    ∷ point (undo_report (undo disagrees 1 [])) (114 ∷ 101 ∷ 102 ∷ 117 ∷ 115 ∷ 101 ∷ 100 ∷ 32 ∷ 49 ∷ 52 ∷ 32 ∷ 108 ∷ 105 ∷ 110 ∷ 101 ∷ 32 ∷ 50 ∷ 10 ∷ [])
    ∷ []

points : List Point
points =
    undoing 3 8
    ++ (undoing 2 8
    ++ (undoing 1 0
    -- the lengths of one version under the number of the other, and numbers of none
    ++ (point (asked (one 2 0) 0 1) (14 ∷ 1 ∷ 0 ∷ 0 ∷ 7 ∷ [])
    ∷ point (asked (one 1 8) 0 1) (14 ∷ 1 ∷ 0 ∷ 0 ∷ 7 ∷ [])
    ∷ point (asked (one 0 0) 0 1) (12 ∷ 0 ∷ 0 ∷ 0 ∷ 7 ∷ [])
    ∷ point (asked (one 4 8) 0 1) (12 ∷ 0 ∷ 0 ∷ 0 ∷ 7 ∷ [])
    -- flows by cookie and then the group; older versions have none of these
    ∷ point (asked (night 3) 0 127) (0 ∷ 0 ∷ 3 ∷ 126 ∷ 40 ∷ 0 ∷ removed 1 ++ (40 ∷ 0 ∷ removed 2 ++ (40 ∷ 0 ∷ unrouting ++ (7 ∷ []))))
    ∷ point (asked evening 3 494) (0 ∷ 0 ∷ 3 ∷ 494 ∷ 184 ∷ 0 ∷ route4 ++ (200 ∷ 0 ∷ route6 ++ (104 ∷ 0 ∷ routing)))
    ∷ point (asked (night 2) 0 1) (14 ∷ 1 ∷ 0 ∷ 0 ∷ 7 ∷ [])
    ∷ [])))

points_hold : all points ≡ true
unfolding points undoing asked top tlv out_pport group_id pop_vlan adding deleting adding_again one two valued cookie route route4 route6 routing removed unrouting night evening code le le_at bytes_of swap16 swapped part inside splice bit known header_counted header_bytes routes prefix_mask length_from prefix_length is_ipv6 is_routed_type address_bytes address_bits aligned_high aligned_low address_in is_unicast value_size filled tlv_at tlv_end is_tlv step_at walk tlvs end_of well_formed fits_width meet scan lookup rows member_width rule_in rule_of field is_at is_absent number_in nest_in given value right has_user field_right every_below fields_right group_type group_vlan group_low vlan_allowed has_members is_routing group_id_allowed member_id elem member_right collect members_in members_right pad refused carried need ethertype_in address_field mask_field other_absent address_of route_of match_of flow_of group_fits new_vlan_fits match_allowed flow_user is_table pair_alone flow_in flow_key_in group_of members_of lower_fits group_allowed group_user group_in group_key_in is_command command_in command_type command_info decode position holds find insert replace remove stored_flow flow_entry group_entry empty_tables add_status held_status command_status_in with_flows with_groups command_effect_in decoded_status_in decoded_effect_in executed carry_out_in execute_in completion header record_of begin ready stopped header_refusal terms_in opened header_read is_unread record_agrees tables_after counted record_read whole feed feeds ends_in finished finish replay port_count_allowed digits decimal item line report length_field tlv_of region_of payload_of fields_from fields_of number_bytes flow_has flow_value flow_bytes flow_fields member_fields group_value group_bytes group_fields record_size records_size first_records tables_in tables_then same_bit same_list same_flow same_group picked flow_payload group_payload flow_run group_run payloads listed refused_undo written_undo fitted undo_from undo undo_report
points_hold = refl
