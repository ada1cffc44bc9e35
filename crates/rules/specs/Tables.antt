-- What a payload does to the tables: the statuses after decoding, in their order, and the tables after it.
use Rattle.std.specs.Prelude.{ℕ, Bool, true, false, List, [], length, replicate, leb, eqb}
use Rattle.rules.specs.Choose.{choose}
use Rattle.rules.specs.Limits.{max_ports, max_flows, max_groups}
use Rattle.rules.specs.Answers.{code}
use Rattle.rules.specs.Keyed.{holds, insert, replace, remove}
use Rattle.rules.specs.Decode.{decode}
use Rattle.rules.specs.declared.Terms.{Terms}
use Rattle.rules.specs.declared.Status.{Status}
use Rattle.rules.specs.declared.Status.TheVariants.{Ok, Enoent, Enomem, Eexist}
use Rattle.rules.specs.declared.Match.{Match}
use Rattle.rules.specs.declared.Match.TheVariants.{IngressPort, Vlan, TerminationMac, UnicastRouting, Bridging}
use Rattle.rules.specs.declared.Flow.{Flow}
use Rattle.rules.specs.declared.Group.{Group}
use Rattle.rules.specs.declared.Command.{Command}
use Rattle.rules.specs.declared.Command.TheVariants.{FlowAdd, FlowMod, FlowDel, GroupAdd, GroupMod, GroupDel}
use Rattle.std.specs.Prelude.{Result, Ok as Carry, Err as Refused}
use Rattle.rules.specs.declared.Decoding.{Decoding}
use Rattle.rules.specs.declared.FlowEntry.{FlowEntry}
use Rattle.rules.specs.declared.GroupEntry.{GroupEntry}
use Rattle.rules.specs.declared.Counts.{Counts}
use Rattle.rules.specs.Rows.{entry_in, group_in, beside}
use Rattle.rules.specs.Places.{places, live}

-- ---- Entries

-- a stored flow: the table's own fields, the others 0. DST_MAC is always given in table 20
unfoldable pub stored_flow : Flow → Match → FlowEntry
stored_flow f (IngressPort p m) =
    record { cookie = f.cookie; dst_mac = 0; address_high = 0; address_low = 0; priority = f.priority; hardtime = f.hardtime; idletime = f.idletime; in_pport = p; in_pport_mask = m; group_id = 0; table = 0; goto_tbl = f.goto_tbl; vlan_id = 0; new_vlan_id = 0; ethertype = 0; prefix = 0; has_mac = false; has_group = false }
stored_flow f (Vlan p v n) =
    record { cookie = f.cookie; dst_mac = 0; address_high = 0; address_low = 0; priority = f.priority; hardtime = f.hardtime; idletime = f.idletime; in_pport = p; in_pport_mask = 0; group_id = 0; table = 10; goto_tbl = f.goto_tbl; vlan_id = v; new_vlan_id = n; ethertype = 0; prefix = 0; has_mac = false; has_group = false }
stored_flow f (TerminationMac p ethertype mac v) =
    record { cookie = f.cookie; dst_mac = mac; address_high = 0; address_low = 0; priority = f.priority; hardtime = f.hardtime; idletime = f.idletime; in_pport = p; in_pport_mask = 0; group_id = 0; table = 20; goto_tbl = f.goto_tbl; vlan_id = v; new_vlan_id = 0; ethertype = ethertype; prefix = 0; has_mac = true; has_group = false }
stored_flow f (UnicastRouting ethertype high low prefix hg id) =
    record { cookie = f.cookie; dst_mac = 0; address_high = high; address_low = low; priority = f.priority; hardtime = f.hardtime; idletime = f.idletime; in_pport = 0; in_pport_mask = 0; group_id = id; table = 30; goto_tbl = f.goto_tbl; vlan_id = 0; new_vlan_id = 0; ethertype = ethertype; prefix = prefix; has_mac = false; has_group = hg }
stored_flow f (Bridging v hm m hg id) =
    record { cookie = f.cookie; dst_mac = m; address_high = 0; address_low = 0; priority = f.priority; hardtime = f.hardtime; idletime = f.idletime; in_pport = 0; in_pport_mask = 0; group_id = id; table = 50; goto_tbl = f.goto_tbl; vlan_id = v; new_vlan_id = 0; ethertype = 0; prefix = 0; has_mac = hm; has_group = hg }

unfoldable pub flow_entry : Flow → FlowEntry
flow_entry f = stored_flow f f.matching

-- a stored group, from its fields and the 62 numbers that its members stand in
unfoldable pub group_entry : Group → List ℕ → GroupEntry
group_entry g members =
    record { id = g.id; pop_vlan = g.pop_vlan; member_count = g.member_count; vlan_id = g.vlan_id; src_mac = g.src_mac; dst_mac = g.dst_mac; members = members }

-- "the key" of each
abbrev pub cookie_of : FlowEntry → ℕ
cookie_of e = e.cookie

abbrev pub id_of : GroupEntry → ℕ
id_of e = e.id

-- ---- Tables

-- The tables as the rules see them: the live entries, in rising order of key
pub record Tables : Type 0 where
  pub flows : List FlowEntry
  pub groups : List GroupEntry

unfoldable pub empty_tables : Tables
empty_tables = record { flows = []; groups = [] }

-- The three arrays that hold the places of both tables: a flow is a row of the first, a group a row of each of the other two
pub record Arrays : Type 0 where
  pub flows : List (List ℕ)
  pub heads : List (List ℕ)
  pub members : List (List ℕ)

abbrev pub arrays : List (List ℕ) → List (List ℕ) → List (List ℕ) → Arrays
arrays flows heads members = record { flows = flows; heads = heads; members = members }

-- the entries in the first `count` places of a table; the other places are free
abbrev pub live_flows : ℕ → List (List ℕ) → List FlowEntry
live_flows count rows = live entry_in (places count rows)

abbrev pub live_groups : ℕ → List (List ℕ) → List (List ℕ) → List GroupEntry
live_groups count heads members = live group_in (places count (beside heads members))

unfoldable pub tables_of : Counts → Arrays → Tables
tables_of c a =
    record { flows = live_flows c.flows a.flows; groups = live_groups c.groups a.heads a.members }

-- no place is live
unfoldable pub none_live : Counts
none_live = record { flows = 0; groups = 0 }

-- a fresh device's arrays: 256 flow places and 128 group places, every word 0
unfoldable pub fresh_arrays : Arrays
fresh_arrays = arrays (replicate max_flows (replicate 22 0)) (replicate max_groups (replicate 8 0)) (replicate max_groups (replicate max_ports 0))

-- ---- Commands

-- of an add EEXIST, then ENOMEM "when 256 flows or 128 groups" are live; of a mod or del ENOENT. For any table, by what says whether a key
-- is there
module _ {A : Type 0} (there : ℕ → List A → Bool) where
  unfoldable pub add_status : ℕ → ℕ → List A → Status
  add_status limit k l = choose (there k l) Eexist (choose (leb limit (length l)) Enomem Ok)

  unfoldable pub held_status : ℕ → List A → Status
  held_status k l = choose (there k l) Ok Enoent

-- How flows are kept, as commands need it: whether a cookie is there, and the list after an add, a mod and a del of one
pub record Store : Type 0 where
  pub there : ℕ → List FlowEntry → Bool
  pub added : FlowEntry → List FlowEntry → List FlowEntry
  pub changed : FlowEntry → List FlowEntry → List FlowEntry
  pub deleted : ℕ → List FlowEntry → List FlowEntry

-- the device's: in rising order of cookie
abbrev pub by_cookie : Store
by_cookie = record { there = holds cookie_of; added = insert cookie_of; changed = replace cookie_of; deleted = remove cookie_of }

unfoldable pub with_flows : Tables → List FlowEntry → Tables
with_flows t l = record { flows = l; groups = t.groups }

unfoldable pub with_groups : Tables → List GroupEntry → Tables
with_groups t l = record { flows = t.flows; groups = l }

-- A payload carried out: its status, and the tables after it
pub record Executed : Type 0 where
  pub status : Status
  pub tables : Tables

-- the effect is used only at OK
unfoldable pub executed : Tables → Status → Tables → Executed
executed t e effect = record { status = e; tables = choose (eqb (code e) 0) effect t }

-- Whatever keeps the flows; groups are kept in rising order of ID
module _ (store : Store) where
  unfoldable pub command_status_in : Tables → Command → Status
  command_status_in t (FlowAdd f) = add_status store.there max_flows f.cookie t.flows
  command_status_in t (FlowMod f) = held_status store.there f.cookie t.flows
  command_status_in t (FlowDel k) = held_status store.there k t.flows
  command_status_in t (GroupAdd g) = add_status (holds id_of) max_groups g.id t.groups
  command_status_in t (GroupMod g) = held_status (holds id_of) g.id t.groups
  command_status_in t (GroupDel k) = held_status (holds id_of) k t.groups

  -- what a command does when its status is OK. A mod replaces all but the key
  unfoldable pub command_effect_in : Tables → Command → List ℕ → Tables
  command_effect_in t (FlowAdd f) m = with_flows t (store.added (flow_entry f) t.flows)
  command_effect_in t (FlowMod f) m = with_flows t (store.changed (flow_entry f) t.flows)
  command_effect_in t (FlowDel k) m = with_flows t (store.deleted k t.flows)
  command_effect_in t (GroupAdd g) m = with_groups t (insert id_of (group_entry g m) t.groups)
  command_effect_in t (GroupMod g) m = with_groups t (replace id_of (group_entry g m) t.groups)
  command_effect_in t (GroupDel k) m = with_groups t (remove id_of k t.groups)

  unfoldable pub decoded_status_in : Tables → Result Command Status → Status
  decoded_status_in t (Carry c) = command_status_in t c
  decoded_status_in t (Refused e) = e

  unfoldable pub decoded_effect_in : Tables → Result Command Status → List ℕ → Tables
  decoded_effect_in t (Carry c) m = command_effect_in t c m
  decoded_effect_in t (Refused e) m = t

  unfoldable pub carry_out_in : Tables → Decoding → Executed
  carry_out_in t d = executed t (decoded_status_in t d.what) (decoded_effect_in t d.what d.members)

  -- a payload, under the terms of a device or a journal
  unfoldable pub execute_in : Terms → List ℕ → Tables → Executed
  execute_in terms payload t = carry_out_in t (decode terms payload)

-- the same of the device's tables, and of those that a replay makes
abbrev pub command_status : Tables → Command → Status
command_status t c = command_status_in by_cookie t c

abbrev pub command_effect : Tables → Command → List ℕ → Tables
command_effect t c m = command_effect_in by_cookie t c m

abbrev pub decoded_status : Tables → Result Command Status → Status
decoded_status t w = decoded_status_in by_cookie t w

abbrev pub decoded_effect : Tables → Result Command Status → List ℕ → Tables
decoded_effect t w m = decoded_effect_in by_cookie t w m

abbrev pub carry_out : Tables → Decoding → Executed
carry_out t d = carry_out_in by_cookie t d

abbrev pub execute : Terms → List ℕ → Tables → Executed
execute terms payload t = execute_in by_cookie terms payload t
