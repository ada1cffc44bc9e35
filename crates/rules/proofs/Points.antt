-- Document 01, "On the edge, both sides": P1 to P14, and the worked example of "The trail", computed by the rules, with the lengths of
-- request 2026-02 and, under version 1, with their own. One table, one test, one theorem.
-- Assumes nothing.
use Prim.Native.Nat.{ℕ, ◌+◌}
use mathlib.Core.Path.{◌≡◌, refl}
use mathlib.Core.Bool.{Bool, true}
use mathlib.Core.List.{List, [], ◌∷◌, ◌++◌}
use lib.Dec.{eqb}
use lib.ListN.{length, take, replicate}
use Rattle.rules.specs.Choose.{choose}
use Rattle.rules.specs.Answers.{code}
use Rattle.rules.specs.Bytes.{le, le_at, bytes_of, swap16, part, inside, splice, bit}
use Rattle.rules.specs.Writes.{memory_after}
use Rattle.rules.specs.Ring.{zero_ring, distance, outstanding, advance, base_refusal, base_effect, power_up_to, size_refusal, size_effect, head_refusal, head_effect, credits_refusal, credits_effect, credits_raises, ctrl_effect, ring_wide, ring_value, ring_store, ring_latch, base_latched, ring_latched, next_slot, complete_effect, complete_raises}
use Rattle.rules.specs.Registers.{register_at, is_wide, upper_of, narrow_at, covered_by, wide_at, access, access_refusal, value_of, read_value, port_bits, command_ring, with_command_ring, with_ring, raised, in_ring, current_terms, with_links, with_test, with_test64, with_enable, fresh_registers, reset_registers, sets, store, latch_of, latch_effect, taken, joined, write_to, unless_refused as unless_write_refused, write, read_refusal, read, port_count_allowed, port_allowed}
use Rattle.rules.specs.Descriptor.{descriptor_at, descriptor, slot_refusal, completion_at, fetch}
use Rattle.rules.specs.Version.{known, header_counted, header_bytes, routes}
use Rattle.rules.specs.Region.{value_size, filled, tlv_at, tlv_end, is_tlv, step_at, walk, tlvs, end_of, well_formed, fits_width, meet, scan, lookup}
use Rattle.rules.specs.Fields.{rows, member_width, rule_in, rule_of, field, is_at, number_in, nest_in, given, value, right, has_user, field_right, every_below, fields_right}
use Rattle.rules.specs.GroupId.{group_type, group_vlan, group_low, vlan_allowed, has_members, is_routing, group_id_allowed, member_id}
use Rattle.rules.specs.Members.{elem, member_right, collect, members_in, members_right, pad}
use Rattle.rules.specs.Decode.{refused, carried, need, match_of, flow_of, group_fits, new_vlan_fits, match_allowed, flow_user, is_table, flow_in, flow_key_in, group_of, members_of, group_allowed, group_user, group_in, group_key_in, is_command, command_in, command_type, command_info, decode}
use Rattle.rules.specs.Keyed.{position, holds, find, insert, replace, remove}
use Rattle.rules.specs.Tables.{Tables, stored_flow, flow_entry, group_entry, empty_tables, add_status, held_status, command_status_in, with_flows, with_groups, command_effect_in, decoded_status_in, decoded_effect_in, executed, carry_out_in, execute, execute_in}
use Rattle.rules.specs.Journal.{completion, header, record_of, begin, ready, stopped, header_refusal, terms_in, opened, header_read, is_unread, record_agrees, tables_after, counted, record_read, whole, feed, feeds, ends_in, finished, finish, replay, digits, decimal, item, line, report}
use Rattle.rules.specs.Engine.{no_order}
use Rattle.rules.specs.Switch.{Switch, Borrowed, fresh_switch, unchanged, unless_refused, read_effect, write_effect, carry_by, carried_slot_by, slot_record_by, buffer_refusal, process_refusal_by, process_writes_by, process_effect_by, headed, refusal_by, effect_by, step, step_by}
use Rattle.rules.specs.declared.Terms.{Terms}
use Rattle.rules.specs.declared.Ring.{Ring}
use Rattle.rules.specs.declared.Request.TheVariants.{Read, Write, Process, Header}
use Rattle.rules.proofs.PointTable.{Point, point, all}

-- ---- What the points are computed from

-- a switch of so many ports whose ring is r
switch_with : ℕ → Ring → Switch
switch_with ports r = record { registers = with_command_ring (fresh_registers ports 0) r; tables = empty_tables; order = no_order }

-- "ring 8, HEAD 5, TAIL 2" with so many credits
ring8 : ℕ → Ring
ring8 credits = record { base_addr = 0; base_latch = 0; size = 8; head = 5; tail = 2; credits = credits }

-- nothing is lent
unlent : Borrowed
unlent = record { memory = []; frame = []; buffer = []; list = [] }

bool : Bool → ℕ
bool b = choose b 1 0

-- a write of HEAD: answer, slots outstanding after it, slots that it posted
head_write : ℕ → List ℕ
head_write v =
    let r = step (switch_with 4 (ring8 0)) unlent (Write 0x100c 4 v) in
    r.answer ∷ outstanding (command_ring r.switch.registers) ∷ choose (eqb r.answer 0) (advance (ring8 0) v) 0 ∷ []

-- a write of SIZE: answer
size_write : ℕ → List ℕ
size_write v = (step (switch_with 4 (ring8 0)) unlent (Write 0x1008 4 v)).answer ∷ []

-- a write of TEST_REG: what is read then
test_write : ℕ → List ℕ
test_write v = (step (step (switch_with 4 zero_ring) unlent (Write 0x0010 4 v)).switch unlent (Read 0x0010 4)).told.value ∷ []

-- a write of CREDITS, of which there are 3: answer, credits left, vectors raised
credits_write : ℕ → List ℕ
credits_write n =
    let r = step (switch_with 4 (ring8 3)) unlent (Write 0x1018 4 n) in
    r.answer ∷ (command_ring r.switch.registers).credits ∷ length r.told.vectors ∷ []

-- the payload that "adds a group", by its five lengths
with_lengths : ℕ → ℕ → ℕ → ℕ → ℕ → List ℕ
with_lengths a b c d e =
    0x01 ∷ 0x00 ∷ 0x00 ∷ 0x00 ∷ a ∷ 0x00 ∷ 0x00 ∷ 0x00 ∷ 0x07 ∷ 0x00 ∷ 0x00 ∷ 0x00 ∷ 0x00 ∷ 0x00 ∷ 0x00 ∷ 0x00
    ∷ 0x02 ∷ 0x00 ∷ 0x00 ∷ 0x00 ∷ b ∷ 0x00 ∷ 0x00 ∷ 0x00
    ∷ 0x0A ∷ 0x00 ∷ 0x00 ∷ 0x00 ∷ c ∷ 0x00 ∷ 0x00 ∷ 0x00 ∷ 0x02 ∷ 0x00 ∷ 0x05 ∷ 0x00 ∷ 0x00 ∷ 0x00 ∷ 0x00 ∷ 0x00
    ∷ 0x08 ∷ 0x00 ∷ 0x00 ∷ 0x00 ∷ d ∷ 0x00 ∷ 0x00 ∷ 0x00 ∷ 0x02 ∷ 0x00 ∷ 0x00 ∷ 0x00 ∷ 0x00 ∷ 0x00 ∷ 0x00 ∷ 0x00
    ∷ 0x2B ∷ 0x00 ∷ 0x00 ∷ 0x00 ∷ e ∷ 0x00 ∷ 0x00 ∷ 0x00 ∷ 0x01 ∷ 0x00 ∷ 0x00 ∷ 0x00 ∷ 0x00 ∷ 0x00 ∷ 0x00 ∷ 0x00
    ∷ []

-- the lengths of request 2026-02, and those of document 01
payload : List ℕ
payload = with_lengths 0x0A 0x38 0x0C 0x0C 0x09

old_payload : List ℕ
old_payload = with_lengths 0x02 0x30 0x04 0x04 0x01

-- version 1 has the old meaning, the device the new one
old : ℕ → Terms
old ports = record { ports = ports; version = 1 }

-- whether a region of 8 bytes and n more is well formed in a version: type 99, and a length
formed : ℕ → ℕ → ℕ → ℕ
formed version field n = bool (well_formed (header_bytes version) (99 ∷ 0 ∷ 0 ∷ 0 ∷ field ∷ 0 ∷ 0 ∷ 0 ∷ replicate n 0))

-- a payload carried out under terms: status, flows, groups
run : Terms → List ℕ → Tables → List ℕ
run terms p t =
    let e = execute terms p t in
    code e.status ∷ length e.tables.flows ∷ length e.tables.groups ∷ []

-- ring of 2 at address 0 with slot 0 posted; its descriptor, the payload after it at 64
posted : Ring
posted = record { base_addr = 0; base_latch = 0; size = 2; head = 1; tail = 0; credits = 0 }

memory : List ℕ
memory = bytes_of 8 64 ++ (bytes_of 8 0 ++ (bytes_of 2 72 ++ (bytes_of 2 72 ++ (replicate 44 0 ++ payload))))

at_work : Borrowed
at_work = record { memory = memory; frame = []; buffer = replicate 80 7; list = [] }

-- that slot processed: answer, completion, bytes recorded, vectors raised, and the buffer
worked : List ℕ
worked =
    let r = step (switch_with 4 posted) at_work Process in
    r.answer ∷ r.told.completed ∷ r.told.written ∷ length r.told.vectors ∷ r.buffer

-- "its trail": header, the first six bytes of the record, the payload
journal_of : ℕ → List ℕ → List ℕ
journal_of version p = 0x52 ∷ 0x4B ∷ 0x54 ∷ version ∷ 0x00 ∷ 0x04 ∷ 0x00 ∷ 0x80 ∷ 0x48 ∷ 0x00 ∷ 0x00 ∷ 0x00 ∷ p

journal : List ℕ
journal = journal_of 3 payload

-- what a header call and a process call write, each on that device
written : List ℕ
written =
    let h = step (switch_with 4 posted) at_work Header in
    let r = step (switch_with 4 posted) at_work Process in
    take h.told.written h.buffer ++ take r.told.written r.buffer

-- what it prints: ports 4, lines 1, charged 1, flows 0, groups 1
five : List ℕ
five =
    112 ∷ 111 ∷ 114 ∷ 116 ∷ 115 ∷ 32 ∷ 52 ∷ 10
    ∷ 108 ∷ 105 ∷ 110 ∷ 101 ∷ 115 ∷ 32 ∷ 49 ∷ 10
    ∷ 99 ∷ 104 ∷ 97 ∷ 114 ∷ 103 ∷ 101 ∷ 100 ∷ 32 ∷ 49 ∷ 10
    ∷ 102 ∷ 108 ∷ 111 ∷ 119 ∷ 115 ∷ 32 ∷ 48 ∷ 10
    ∷ 103 ∷ 114 ∷ 111 ∷ 117 ∷ 112 ∷ 115 ∷ 32 ∷ 49 ∷ 10
    ∷ []

-- refused 14 line 2, and the like: two digits of the answer, one of the line
one : ℕ → ℕ → ℕ → List ℕ
one a b line = 114 ∷ 101 ∷ 102 ∷ 117 ∷ 115 ∷ 101 ∷ 100 ∷ 32 ∷ (48 + a) ∷ (48 + b) ∷ 32 ∷ 108 ∷ 105 ∷ 110 ∷ 101 ∷ 32 ∷ (48 + line) ∷ 10 ∷ []

-- the record a second time: the group is there already, so OK disagrees
again : List ℕ
again = journal ++ (0x00 ∷ 0x80 ∷ 0x48 ∷ 0x00 ∷ 0x00 ∷ 0x00 ∷ payload)

-- ---- The table

points : List Point
points =
    point (head_write 1) (0 ∷ 7 ∷ 4 ∷ [])  -- P1
    ∷ point (head_write 2) (2 ∷ 3 ∷ 0 ∷ [])  -- P2
    ∷ point (head_write 5) (0 ∷ 3 ∷ 0 ∷ [])  -- P3
    ∷ point (head_write 8) (2 ∷ 3 ∷ 0 ∷ [])  -- P4
    ∷ point (size_write 65536) (0 ∷ [])  -- P5
    ∷ point (size_write 3) (2 ∷ [])  -- P6
    ∷ point (test_write 0x80000001) (0x00000002 ∷ [])  -- P7
    ∷ point (credits_write 4) (2 ∷ 3 ∷ 0 ∷ [])  -- P8
    ∷ point (credits_write 3) (0 ∷ 0 ∷ 0 ∷ [])  -- P9
    ∷ point (formed 2 8 0 ∷ []) (1 ∷ [])  -- P10
    ∷ point (formed 2 8 4 ∷ []) (0 ∷ [])  -- P11
    ∷ point (run (current_terms 4) payload empty_tables) (0 ∷ 0 ∷ 1 ∷ [])  -- P12
    ∷ point (run (current_terms 4) payload (execute (current_terms 4) payload empty_tables).tables) (17 ∷ 0 ∷ 1 ∷ [])  -- P13
    ∷ point (run (current_terms 1) payload empty_tables) (22 ∷ 0 ∷ 0 ∷ [])  -- P14
    ∷ point (formed 2 0 0 ∷ formed 2 7 0 ∷ []) (0 ∷ 0 ∷ [])  -- "under 8"
    ∷ point (run (current_terms 4) old_payload empty_tables) (22 ∷ 0 ∷ 0 ∷ [])
    ∷ point (formed 1 0 0 ∷ formed 1 0 4 ∷ []) (1 ∷ 0 ∷ [])  -- P10, P11 of version 1
    ∷ point (run (old 4) old_payload empty_tables) (0 ∷ 0 ∷ 1 ∷ [])  -- P12 of version 1
    ∷ point (run (old 4) old_payload (execute (old 4) old_payload empty_tables).tables) (17 ∷ 0 ∷ 1 ∷ [])  -- P13 of version 1
    ∷ point (run (old 1) old_payload empty_tables) (22 ∷ 0 ∷ 0 ∷ [])  -- P14 of version 1
    ∷ point (run (old 4) payload empty_tables) (22 ∷ 0 ∷ 0 ∷ [])
    ∷ point worked (0 ∷ 0x8000 ∷ 78 ∷ 1 ∷ (0x00 ∷ 0x80 ∷ 0x48 ∷ 0x00 ∷ 0x00 ∷ 0x00 ∷ payload) ++ (7 ∷ 7 ∷ []))
    ∷ point written journal
    ∷ point (report (replay journal)) five
    ∷ point (report (replay again)) (one 1 4 2)
    ∷ point (report (replay (journal_of 1 old_payload))) five
    ∷ point (report (replay (journal_of 2 payload))) five
    ∷ point (report (replay (journal_of 2 old_payload))) (one 1 4 1)
    ∷ point (report (replay (journal_of 1 payload))) (one 1 4 1)
    ∷ point (report (replay (journal_of 0 payload))) (one 1 2 0)
    ∷ point (report (replay (journal_of 4 payload))) (one 1 2 0)
    ∷ []

points_hold : all points ≡ true
unfolding points switch_with ring8 unlent bool head_write size_write test_write credits_write with_lengths payload old_payload old formed run posted memory at_work worked journal_of journal written five one again code le le_at bytes_of swap16 part inside splice bit zero_ring distance outstanding advance base_refusal base_effect power_up_to size_refusal size_effect head_refusal head_effect credits_refusal credits_effect credits_raises ctrl_effect ring_wide ring_value ring_store ring_latch base_latched ring_latched next_slot complete_effect complete_raises register_at is_wide upper_of narrow_at covered_by wide_at access access_refusal value_of read_value port_bits with_ring raised in_ring with_links with_test with_test64 with_enable fresh_registers reset_registers sets store latch_of latch_effect taken joined write_to unless_write_refused write read_refusal read port_count_allowed port_allowed descriptor_at descriptor slot_refusal completion_at fetch known header_counted header_bytes routes value_size filled tlv_at tlv_end is_tlv step_at walk tlvs end_of well_formed fits_width meet scan lookup rows member_width rule_in rule_of field is_at number_in nest_in given value right has_user field_right every_below fields_right group_type group_vlan group_low vlan_allowed has_members is_routing group_id_allowed member_id elem member_right collect members_in members_right pad refused carried need match_of flow_of group_fits new_vlan_fits match_allowed flow_user is_table flow_in flow_key_in group_of members_of group_allowed group_user group_in group_key_in is_command command_in command_type command_info decode position holds find insert replace remove stored_flow flow_entry group_entry empty_tables add_status held_status command_status_in with_flows with_groups command_effect_in decoded_status_in decoded_effect_in executed carry_out_in execute_in completion header record_of begin ready stopped header_refusal terms_in opened header_read is_unread record_agrees tables_after counted record_read whole feed feeds ends_in finished finish replay digits decimal item line report fresh_switch unchanged unless_refused read_effect write_effect carry_by carried_slot_by slot_record_by buffer_refusal process_refusal_by process_writes_by memory_after process_effect_by headed refusal_by effect_by step_by
points_hold = refl
