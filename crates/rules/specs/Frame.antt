-- "A frame's way": from a frame and its ingress port through the tables to the list of outputs (document 01: copies).
use Rattle.std.specs.Prelude.{ℕ, ◌+◌, ◌/◌, ◌%◌, ◌^◌, Bool, true, false, not, ◌&&◌, ◌||◌, List, [], ◌∷◌, ◌++◌, length, take, get_or, ltb, leb, eqb}
use Rattle.std.proofs.Math.Option.{Option, none, some}
use Rattle.std.specs.Int.Bits.{bit_and}
use Rattle.rules.specs.Choose.{choose, refuse}
use Rattle.rules.specs.Limits.{list_numbers}
use Rattle.rules.specs.Bytes.{le_at, swap16, swapped, splice}
use Rattle.rules.specs.Address.{agree, is_ipv6, address_bytes, address_bits, address_in}
use Rattle.rules.specs.Keyed.{find}
use Rattle.rules.specs.GroupId.{group_type, group_vlan, group_low, has_members, is_routing, member_id}
use Rattle.rules.specs.Registers.{port_allowed, is_up}
use Rattle.rules.specs.Tables.{id_of}
use Rattle.rules.specs.declared.Registers.{Registers}
use Rattle.rules.specs.declared.FlowEntry.{FlowEntry}
use Rattle.rules.specs.declared.GroupEntry.{GroupEntry}

-- ---- The frame

-- a frame with a VLAN tag: "bytes 12 and 13"
unfoldable pub is_tagged : List ℕ → Bool
is_tagged f = eqb (get_or f 12 0) 0x81 && eqb (get_or f 13 0) 0x00

-- A frame's length ("14 to 9,216 bytes"): room for its header, and for the tag where it has one
unfoldable pub is_frame : List ℕ → Bool
is_frame f = leb 14 (length f) && leb (length f) 9216 && (not (is_tagged f) || leb 18 (length f))

-- the VLAN in a frame's tag, without the 4 bits above it ("the low 12 bits"); 0 without a tag
unfoldable pub frame_vlan : List ℕ → ℕ
frame_vlan f = choose (is_tagged f) (swap16 (le_at 2 f 14) % 2 ^ 12) 0

-- the destination MAC in wire order, as DST_MAC holds it
unfoldable pub frame_mac : List ℕ → ℕ
frame_mac f = le_at 6 f 0

-- the EtherType, "a tagged frame's" behind the tag, and where what follows it begins
unfoldable pub frame_type : List ℕ → ℕ
frame_type f = swap16 (le_at 2 f (choose (is_tagged f) 16 12))

unfoldable pub after_type : List ℕ → ℕ
after_type f = choose (is_tagged f) 18 14

-- "20 (IPv6 40) bytes after the EtherType": a header that has its destination address
unfoldable pub is_routable : List ℕ → Bool
is_routable f = leb (after_type f + choose (is_ipv6 (frame_type f)) 40 20) (length f)

-- the destination address of an IPv4 header stands in its bytes 16 to 19, that of an IPv6 header in 24 to 39
unfoldable pub frame_address : List ℕ → ℕ
frame_address f =
    let n = address_bytes (frame_type f) in
    swapped n (le_at n f (after_type f + choose (is_ipv6 (frame_type f)) 24 16))

-- what the tables look at in a frame
pub record Headers : Type 0 where
  pub mac : ℕ
  pub vlan : ℕ
  pub ethertype : ℕ
  pub routable : Bool
  pub address : ℕ

unfoldable pub headers_of : List ℕ → Headers
headers_of f =
    record { mac = frame_mac f; vlan = frame_vlan f; ethertype = frame_type f; routable = is_routable f; address = frame_address f }

-- ---- The deciding flow

-- What decides in a table, by its number and what it compares: a flow of it, or none
abbrev pub Decider : Type 0
Decider = ℕ → (FlowEntry → Bool) → Option FlowEntry

-- the best of the entries that match, in any order of storage
module _ {A : Type 0} (matches : A → Bool) (beats : A → A → Bool) where
  abbrev pub better : A → Option A → Option A
  better e none = choose (matches e) (some e) none
  better e (some b) = choose (matches e) (choose (beats e b) (some e) (some b)) (some b)

  unfoldable pub best : List A → Option A
  best [] = none
  best (e ∷ es) = better e (best es)

-- Which of two matches decides: "the longest prefix" first, then a higher PRIORITY, and among equal ones "the lower cookie". Only flows of
-- table 30 have a prefix, of the others it is 0 (Tables: stored_flow), so one order serves every table
unfoldable pub beats : FlowEntry → FlowEntry → Bool
beats a b =
    choose (eqb a.prefix b.prefix)
    (choose (eqb a.priority b.priority) (ltb a.cookie b.cookie) (ltb b.priority a.priority))
    (ltb b.prefix a.prefix)

-- a flow of table 0 matches by the bits of the port that its mask has: "both under the mask"
unfoldable pub matches0 : ℕ → FlowEntry → Bool
matches0 port e = eqb e.table 0 && eqb (bit_and port e.in_pport_mask) (bit_and e.in_pport e.in_pport_mask)

-- one of table 10 by "port and VLAN"
unfoldable pub matches10 : ℕ → ℕ → FlowEntry → Bool
matches10 port vlan e = eqb e.table 10 && eqb e.in_pport port && eqb e.vlan_id vlan

-- one of table 20 by port, EtherType, destination and VLAN, "without masks"
unfoldable pub matches20 : ℕ → Headers → ℕ → FlowEntry → Bool
matches20 port h vlan e =
    eqb e.table 20 && eqb e.in_pport port && eqb e.ethertype h.ethertype && eqb e.dst_mac h.mac && eqb e.vlan_id vlan

-- one of table 30 by EtherType and destination address, under its mask
unfoldable pub matches30 : Headers → FlowEntry → Bool
matches30 h e =
    let w = address_bits h.ethertype in
    eqb e.table 30 && eqb e.ethertype h.ethertype && agree w e.prefix (address_in w e.address_high e.address_low) h.address

-- one of table 50 by VLAN and, "where given", by destination
unfoldable pub matches50 : ℕ → ℕ → FlowEntry → Bool
matches50 vlan mac e = eqb e.table 50 && eqb e.vlan_id vlan && (not e.has_mac || eqb e.dst_mac mac)

-- ---- The way through the tables

-- how a frame leaves them: its VLAN, and the group that is named
pub record Exit : Type 0 where
  pub vlan : ℕ
  pub group : ℕ

-- After tables 30 and 50: a frame that no flow of it matches is dropped, as is one whose flow has GOTO_TBL 0; else table 60 is "passed
-- through", and where the flow names no group nothing goes out.
unfoldable pub exit_of : ℕ → Option FlowEntry → Option Exit
exit_of vlan none = none
exit_of vlan (some e) =
    choose (eqb e.goto_tbl 0) none (choose e.has_group (some (record { vlan = vlan; group = e.group_id })) none)

unfoldable pub from_table50 : Decider → ℕ → ℕ → Option Exit
from_table50 decides mac vlan = exit_of vlan (decides 50 (matches50 vlan mac))

-- a frame in which the address is not whole "drops"
unfoldable pub from_table30 : Decider → Headers → ℕ → Option Exit
from_table30 decides h vlan = choose h.routable (exit_of vlan (decides 30 (matches30 h))) none

-- table 20: "a miss goes to 50"; a flow of it has GOTO_TBL 30
unfoldable pub after_table20 : Decider → Headers → ℕ → Option FlowEntry → Option Exit
after_table20 decides h vlan none = from_table50 decides h.mac vlan
after_table20 decides h vlan (some e) = from_table30 decides h vlan

unfoldable pub from_table20 : Decider → ℕ → Headers → ℕ → Option Exit
from_table20 decides port h vlan = after_table20 decides h vlan (decides 20 (matches20 port h vlan))

-- After table 10: dropped in the same two cases as in 50; else a frame whose VLAN is 0 "takes NEW_VLAN_ID", and table 20 is next
unfoldable pub after_table10 : Decider → ℕ → Headers → Option FlowEntry → Option Exit
after_table10 decides port h none = none
after_table10 decides port h (some e) =
    choose (eqb e.goto_tbl 0) none (from_table20 decides port h (choose (eqb h.vlan 0) e.new_vlan_id h.vlan))

unfoldable pub from_table10 : Decider → ℕ → Headers → Option Exit
from_table10 decides port h = after_table10 decides port h (decides 10 (matches10 port h.vlan))

-- table 0 lets a frame on that no flow of it matches: "a miss goes to 10"
unfoldable pub passes_table0 : Option FlowEntry → Bool
passes_table0 none = true
passes_table0 (some e) = not (eqb e.goto_tbl 0)

unfoldable pub way_of : Decider → ℕ → Headers → Option Exit
way_of decides port h = choose (passes_table0 (decides 0 (matches0 port))) (from_table10 decides port h) none

unfoldable pub way : Decider → ℕ → List ℕ → Option Exit
way decides port f = way_of decides port (headers_of f)

-- ---- Outputs

-- how a frame leaves by a group: its VLAN, and where it is routed its new MACs, in wire order
pub record Rewrite : Type 0 where
  pub vlan : ℕ
  pub source : ℕ
  pub destination : ℕ
  pub routed : Bool

-- "0 where bridged"
abbrev pub bridged : ℕ → Rewrite
bridged vlan = record { vlan = vlan; source = 0; destination = 0; routed = false }

-- type 2 "gives new source and destination MAC, a VLAN"
abbrev pub routed_by : GroupEntry → Rewrite
routed_by g = record { vlan = g.vlan_id; source = g.src_mac; destination = g.dst_mac; routed = true }

-- an output ("A copy is")
pub record Output : Type 0 where
  pub port : ℕ
  pub pop : ℕ
  pub rewrite : Rewrite

-- the output of a group of type 0: OUT_PPORT is the low bits of its ID
unfoldable pub output_of : Rewrite → GroupEntry → Output
output_of how g = record { port = group_low g.id; pop = choose g.pop_vlan 1 0; rewrite = how }

unfoldable pub output_if : Rewrite → Option GroupEntry → List Output → List Output
output_if how none rest = rest
output_if how (some g) rest = output_of how g ∷ rest

-- one output for each member that exists ("existing members"), in the order of the list
unfoldable pub member_outputs : List GroupEntry → ℕ → Rewrite → List ℕ → List Output
member_outputs groups group_vlan how [] = []
member_outputs groups group_vlan how (low ∷ lows) =
    output_if how (find id_of (member_id group_vlan low) groups) (member_outputs groups group_vlan how lows)

-- what a group comes to by its type: its own output ("one copy"); those of its members; or that of its lower group, a member with the group's
-- own VLAN, as a routed frame
unfoldable pub group_outputs : List GroupEntry → ℕ → GroupEntry → List Output
group_outputs groups vlan g =
    let lows = take g.member_count g.members in
    choose (eqb (group_type g.id) 0) (output_of (bridged vlan) g ∷ [])
    (choose (is_routing (group_type g.id)) (member_outputs groups g.vlan_id (routed_by g) lows)
    (choose (has_members (group_type g.id)) (member_outputs groups (group_vlan g.id) (bridged vlan) lows) []))

-- a group that is named and does not exist ("a missing one") gives none
unfoldable pub found_outputs : List GroupEntry → ℕ → Option GroupEntry → List Output
found_outputs groups vlan none = []
found_outputs groups vlan (some g) = group_outputs groups vlan g

unfoldable pub exit_outputs : List GroupEntry → Option Exit → List Output
exit_outputs groups none = []
exit_outputs groups (some x) = found_outputs groups x.vlan (find id_of x.group groups)

-- No output goes to the port that the frame came in by, but a "routed frame may". Link and enable are asked of a port "from 1 up": 0 is
-- the host.
unfoldable pub is_kept : Registers → ℕ → Output → Bool
is_kept d ingress o = (o.rewrite.routed || not (eqb o.port ingress)) && (eqb o.port 0 || is_up d o.port)

unfoldable pub keep : Registers → ℕ → List Output → List Output
keep d ingress [] = []
keep d ingress (o ∷ os) = choose (is_kept d ingress o) (o ∷ keep d ingress os) (keep d ingress os)

-- the outputs of a frame: none where its ingress port is "down or not enabled"
unfoldable pub outputs : Registers → Decider → List GroupEntry → ℕ → List ℕ → List Output
outputs d decides groups port f = choose (is_up d port) (keep d port (exit_outputs groups (way decides port f))) []

-- a MAC in three numbers (N), its first two bytes in the first
unfoldable pub mac_numbers : ℕ → List ℕ
mac_numbers mac = swap16 mac ∷ swap16 (mac / 2 ^ 16) ∷ swap16 (mac / 2 ^ 32) ∷ []

-- "nine 16-bit numbers" of an output
unfoldable pub copy_of : Output → List ℕ
copy_of o = o.port ∷ o.rewrite.vlan ∷ o.pop ∷ (mac_numbers o.rewrite.source ++ mac_numbers o.rewrite.destination)

unfoldable pub numbers_of : List Output → List ℕ
numbers_of [] = []
numbers_of (o ∷ os) = copy_of o ++ numbers_of os

-- ---- The call

-- 7: a port that the device does not have; 8: "not a frame"; 9: a list without room for 62 outputs ("558")
unfoldable pub frame_refusal : Registers → ℕ → List ℕ → List ℕ → ℕ
frame_refusal d port f list =
    refuse (not (port_allowed d port)) 7 (refuse (not (is_frame f)) 8 (refuse (ltb (length list) list_numbers) 9 0))

-- the list with the outputs at its start, "the rest of the list" as it was
unfoldable pub list_after : List Output → List ℕ → List ℕ
list_after os list = splice 0 (numbers_of os) list
