-- The round trip of a flow: a device reads each field back as it was written, so that an admitted entry's payload decodes to its own flow.
-- Assumes nothing.
use Prim.Native.Nat.{ℕ, ◌+◌, ◌*◌, ◌/◌, ◌%◌, ◌≤◌, ◌<◌, ◌^◌}
use mathlib.Core.Bool.{Bool, true, false, not, ◌||◌}
use mathlib.Core.Path.{◌≡◌, refl, sym, ap, ◌∙◌}
use mathlib.Core.List.{List, []}
use native.Mathlib.Omega.{arith}
use native.Mathlib.Nat.{mod-eq_of_lt}
use lib.ListN.{length}
use lib.Dec.{eqb}
use borrow.Author.Tests.{eq-eqb, leb-true}
use Rattle.rules.specs.Choose.{choose}
use Rattle.rules.specs.Limits.{field_types, max_flows, max_payload}
use Rattle.rules.specs.Bytes.{le, bytes_of, swap16}
use Rattle.rules.specs.Version.{current, routes}
use Rattle.rules.specs.Region.{filled, fits_width}
use Rattle.rules.specs.Address.{prefix_mask, prefix_length, is_ipv6, is_routed_type, address_bytes, address_bits, aligned_high, aligned_low, address_in}
use Rattle.rules.specs.Registers.{current_terms}
use Rattle.rules.specs.Keyed.{holds, insert, replace, remove}
use Rattle.rules.specs.Fields.{rows, rule_in, rule_of, has_user, field, is_absent, given, value, every_below, fields_right, flow_any, flow0, flow10, flow20, flow30, flow30v4, flow30v6, flow50, flow_del, group2, group_any}
use Rattle.rules.specs.Encode.{region_of, payload_of, number_bytes, flow_has, flow_value, flow_bytes, flow_fields}
use Rattle.rules.specs.Undo.{flow_payload}
use Rattle.rules.specs.Decode.{need, carried, ethertype_in, address_field, mask_field, other_absent, address_of, route_of, match_of, flow_of, match_allowed, flow_user, is_table, pair_alone, flow_in as flow_from, flow_key_in, is_command, command_in, decode}
use Rattle.rules.specs.Tables.{Tables, stored_flow, flow_entry, cookie_of, add_status, held_status, command_status_in, with_flows, command_effect_in, decoded_status_in, decoded_effect_in, executed, carry_out_in, execute, execute_in}
use Rattle.rules.specs.declared.Flow.{Flow}
use Rattle.rules.specs.declared.Command.{Command}
use Rattle.rules.specs.declared.Command.TheVariants.{FlowAdd, FlowMod, FlowDel}
use Rattle.rules.specs.declared.FlowEntry.{FlowEntry}
use Rattle.rules.proofs.Cases.{by_test, by_eq, not_both, and_left, and_right}
use Rattle.rules.proofs.Bytes.{le_bytes_of, length_bytes_of}
use Rattle.rules.proofs.FieldTable.{narrow}
use Rattle.encoded.specs.Placed.{own, Encodable}
use Rattle.encoded.specs.Admitted.{match_in, flow_in, has_new, bits_of, destination, FlowAdmitted}
use Rattle.rules.proofs.Address.{swapped_below, swapped_twice, mask_below, length_of_mask}
use Rattle.encoded.proofs.Region.{is_listed, fields_encodable, field_absent, given_field, value_field, fields_right_lem, sum_from, length_fields, length_payload, decode_payload}

-- ---- Values

-- two bytes that are swapped twice
pub swapped_fits : (v : ℕ) → swap16 v < 2 ^ 16
unfolding swap16
swapped_fits v = omega arith

changed : (a b : ℕ) → a < 256 → b < 256 → swap16 (a * 256 + b) ≡ b * 256 + a
unfolding swap16
changed a b ha hb =
    let low : (a * 256 + b) % 256 ≡ b = omega arith in
    let high : (a * 256 + b) / 256 ≡ a = omega arith in
    rw (low, high, mod-eq_of_lt ha)

pub swap_swap : (v : ℕ) → v < 2 ^ 16 → swap16 (swap16 v) ≡ v
swap_swap v h =
    let e : swap16 v ≡ v % 256 * 256 + v / 256 % 256 = unfold swap16 in refl in
    let s = changed (v % 256) (v / 256 % 256) (omega arith) (omega arith) in
    let w : v / 256 % 256 * 256 + v % 256 ≡ v = omega arith in
    ap swap16 e ∙ (s ∙ w)

-- a field that is there if its value is not 0
pub optional : (there : Bool) (v : ℕ) → (there ≡ false → v ≡ 0) → choose there v 0 ≡ v
optional true v z = refl
optional false v z = sym (z refl)

-- the bytes of a number have its field's width, and are few
pub wide_number : (t v : ℕ) → fits_width (rule_of t).width (length (number_bytes t v)) ≡ true
unfolding number_bytes fits_width
wide_number t v =
    let w = (rule_of t).width in
    by_test (eqb w 0) (λ p. rw p) (λ p. rw p (eq-eqb (length (bytes_of w v)) w (length_bytes_of w v)))

pub few_bytes : (t v : ℕ) → length (number_bytes t v) ≤ 16
unfolding number_bytes
few_bytes t v = rw (length_bytes_of (rule_of t).width v) (narrow t)

pub number_read : (t v : ℕ) → v < 256 ^ (rule_of t).width → le (rule_of t).width (number_bytes t v) ≡ v
unfolding number_bytes
number_read t v h = le_bytes_of (rule_of t).width v ∙ mod-eq_of_lt h

-- ---- What is read of a flow's fields

module _ (who : ℕ) (e : FlowEntry) where
  few_flow : (t : ℕ) → length (flow_bytes e t) ≤ 16
  unfolding flow_bytes
  few_flow t = few_bytes t (flow_value e t)

  short_flow : (t : ℕ) → length (flow_bytes e t) ≤ max_payload
  short_flow t = omega (arith, few_flow t)

  wide_flow : (t : ℕ) → fits_width (rule_of t).width (length (flow_bytes e t)) ≡ true
  unfolding flow_bytes
  wide_flow t = wide_number t (flow_value e t)

  flow_encodable : Encodable (flow_fields who e)
  unfolding flow_fields
  flow_encodable = fields_encodable who (flow_has e) (flow_bytes e) short_flow

  flow_given : (k : ℕ) → k < field_types → given own (region_of (flow_fields who e)) k ≡ is_listed who (flow_has e) k
  unfolding flow_fields
  flow_given = given_field who (flow_has e) (flow_bytes e) short_flow wide_flow

  flow_value_lem : (k : ℕ) → k < field_types → flow_value e k < 256 ^ (rule_of k).width
      → value own (region_of (flow_fields who e)) k ≡ choose (is_listed who (flow_has e) k) (flow_value e k) 0
  unfolding flow_fields flow_bytes
  flow_value_lem k h fits =
      value_field who (flow_has e) (flow_bytes e) short_flow wide_flow k h
      ∙ ap (λ (v : ℕ). choose (is_listed who (flow_has e) k) v 0) (number_read k (flow_value e k) fits)

  flow_absent : (k : ℕ) → k < field_types → is_listed who (flow_has e) k ≡ false → is_absent (field own (region_of (flow_fields who e)) k) ≡ true
  unfolding flow_fields is_absent
  flow_absent k h p = rw (field_absent who (flow_has e) (flow_bytes e) short_flow wide_flow k h p)

  flow_right : every_below field_types (λ t. not (has_user (rule_of t).needs who) || flow_has e t) ≡ true
      → fields_right own (region_of (flow_fields who e)) who ≡ true
  unfolding flow_fields
  flow_right = fields_right_lem who (flow_has e) (flow_bytes e) short_flow wide_flow

  tlv_length : (t : ℕ) → 8 + filled (length (flow_bytes e t)) ≤ 24
  unfolding filled
  tlv_length t = omega (arith, few_flow t)

  flow_length : length (region_of (flow_fields who e)) ≤ 1056
  unfolding flow_fields sum_from
  flow_length = length_fields who (flow_has e) (flow_bytes e) (λ t. 24) tlv_length

-- ---- Add and mod

-- what is read of the fields of an entry
record Reads (s : List ℕ) (e : FlowEntry) : Type 0 where
  table_given : given own s 1 ≡ true
  table_read : value own s 1 ≡ e.table
  fields_read : fields_right own s (flow_user e.table (ethertype_in own s)) ≡ true
  pair_read : pair_alone own s e.table ≡ true
  flow_read : flow_of own s e.table ≡ flow_in e
  new_given : given own s 19 ≡ has_new e

decodes : (ports : ℕ) (e : FlowEntry) (s : List ℕ) (make : Flow → Command) → FlowAdmitted ports e → Reads s e
    → flow_from (current_terms ports) s make ≡ carried (make (flow_in e)) []
unfolding flow_from need
decodes ports e s make a r =
    let goto : value own s 9 ≡ e.goto_tbl = unfold flow_of flow_in in ap (λ (f : Flow). f.goto_tbl) r.flow_read in
    let match : match_of own s e.table ≡ match_in e = unfold flow_of flow_in in ap (λ (f : Flow). f.matching) r.flow_read in
    rw (r.table_given, r.table_read, a.is_table, r.fields_read, r.pair_read, goto, r.new_given, match, a.allowed, r.flow_read)

by_table : {G : Type 0} (t : ℕ) → is_table current t ≡ true → (t ≡ 0 → G) → (t ≡ 10 → G) → (t ≡ 20 → G) → (t ≡ 30 → G) → (t ≡ 50 → G) → G
unfolding is_table routes
by_table t h zero ten twenty thirty fifty =
    by_eq t 0 (λ e p. zero e)
    (λ d p. by_eq t 10 (λ e q. ten e)
    (λ d q. by_eq t 20 (λ e r. twenty e)
    (λ d r. by_eq t 30 (λ e u. thirty e)
    (λ d u. by_eq t 50 (λ e v. fifty e)
    (λ d v. not_both (sym (simp (p, q, r, u, v) at h)))))))

module _ (who : ℕ) (e : FlowEntry) where
  -- a field that its user always has
  value_at : (k v : ℕ) → k < field_types → is_listed who (flow_has e) k ≡ true → flow_value e k ≡ v → v < 256 ^ (rule_of k).width
      → value own (region_of (flow_fields who e)) k ≡ v
  value_at k v h p q fits = flow_value_lem who e k h (rw q fits) ∙ rw (p, q)

  module _ (ports : ℕ) (a : FlowAdmitted ports e) (any : has_user flow_any who ≡ true) (key : has_user (flow_any + flow_del) who ≡ true) where
    table_value : value own (region_of (flow_fields who e)) 1 ≡ e.table
    unfolding is_listed rule_of rule_in rows flow_has flow_value
    table_value = value_at 1 e.table (omega arith) (rw any) refl (by_table e.table a.is_table (λ z. omega arith) (λ z. omega arith) (λ z. omega arith) (λ z. omega arith) (λ z. omega arith))

    flow_read : match_of own (region_of (flow_fields who e)) e.table ≡ match_in e → flow_of own (region_of (flow_fields who e)) e.table ≡ flow_in e
    unfolding is_listed rule_of rule_in rows flow_has flow_value flow_of flow_in
    flow_read m =
        rw
        (value_at 5 e.cookie (omega arith) (rw key) refl a.cookie_fits, value_at 2 e.priority (omega arith) (rw any) refl a.priority_fits, value_at 3 e.hardtime (omega arith) (rw any) refl a.hardtime_fits, value_at 4 e.idletime (omega arith) (rw any) refl a.idletime_fits, value_at 9 e.goto_tbl (omega arith) (rw any) refl a.goto_fits, m)

    reads : flow_user e.table (ethertype_in own (region_of (flow_fields who e))) ≡ who → every_below field_types (λ t. not (has_user (rule_of t).needs who) || flow_has e t) ≡ true
        → pair_alone own (region_of (flow_fields who e)) e.table ≡ true → match_of own (region_of (flow_fields who e)) e.table ≡ match_in e
        → is_listed who (flow_has e) 19 ≡ has_new e → Reads (region_of (flow_fields who e)) e
    unfolding is_listed rule_of rule_in rows flow_has
    reads user every pair match new =
        record {
          table_given = flow_given who e 1 (omega arith) ∙ rw any;
          table_read = table_value;
          fields_read = rw user (flow_right who e every);
          pair_read = pair;
          flow_read = flow_read match;
          new_given = flow_given who e 19 (omega arith) ∙ new;
        }

-- each table with its own fields
module _ (s : List ℕ) (e : FlowEntry) where
  match_0 : e.table ≡ 0 → value own s 6 ≡ e.in_pport → value own s 7 ≡ e.in_pport_mask → match_of own s e.table ≡ match_in e
  unfolding match_of match_in
  match_0 z p m = rw z (rw (p, m))

  match_10 : e.table ≡ 10 → value own s 6 ≡ e.in_pport → swap16 (value own s 14) ≡ e.vlan_id → swap16 (value own s 19) ≡ e.new_vlan_id
      → match_of own s e.table ≡ match_in e
  unfolding match_of match_in
  match_10 z p v n = rw z (rw (p, v, n))

  match_20 : e.table ≡ 20 → value own s 6 ≡ e.in_pport → ethertype_in own s ≡ e.ethertype → value own s 24 ≡ e.dst_mac
      → swap16 (value own s 14) ≡ e.vlan_id → match_of own s e.table ≡ match_in e
  unfolding match_of match_in
  match_20 z p t m v = rw z (rw (p, t, m, v))

  match_30 : e.table ≡ 30 → ethertype_in own s ≡ e.ethertype → address_of own s e.ethertype (address_field e.ethertype) ≡ destination e
      → prefix_length (bits_of e) (address_of own s e.ethertype (mask_field e.ethertype)) ≡ e.prefix
      → given own s 10 ≡ e.has_group → value own s 10 ≡ e.group_id
      → aligned_high (bits_of e) (destination e) ≡ e.address_high → aligned_low (bits_of e) (destination e) ≡ e.address_low
      → match_of own s e.table ≡ match_in e
  unfolding match_of match_in route_of
  match_30 z t d p hg g h l = rw z (rw (t, d, p, hg, g, h, l))

  user_30 : e.table ≡ 30 → ethertype_in own s ≡ e.ethertype → flow_user e.table (ethertype_in own s) ≡ flow_user 30 e.ethertype
  user_30 z t = rw (z, t)

  pair_30 : e.table ≡ 30 → ethertype_in own s ≡ e.ethertype → other_absent own s e.ethertype ≡ true → pair_alone own s e.table ≡ true
  unfolding pair_alone
  pair_30 z t p = rw (z, t, p)

  match_50 : e.table ≡ 50 → swap16 (value own s 14) ≡ e.vlan_id → given own s 24 ≡ e.has_mac → value own s 24 ≡ e.dst_mac
      → given own s 10 ≡ e.has_group → value own s 10 ≡ e.group_id → match_of own s e.table ≡ match_in e
  unfolding match_of match_in
  match_50 z v hm m hg g = rw z (rw (v, hm, m, hg, g))

-- a route, of either family
module _ (e : FlowEntry) where
  -- who reads it
  reader : ℕ
  reader = flow_user 30 e.ethertype

  route : List ℕ
  route = region_of (flow_fields reader e)

  -- what holds of both readers
  of_family : (P : ℕ → Type 0) → P flow30v6 → P flow30v4 → P reader
  unfolding reader flow_user
  of_family P six four = by_test (is_ipv6 e.ethertype) (λ p. rw p six) (λ p. rw p four)

module _ (ports : ℕ) (e : FlowEntry) (a : FlowAdmitted ports e) where
  -- VLAN_ID of one who has it
  vlan_read : (who : ℕ) → has_user (flow10 + flow20 + flow50 + group2) who ≡ true → swap16 (value own (region_of (flow_fields who e)) 14) ≡ e.vlan_id
  unfolding is_listed rule_of rule_in rows flow_has flow_value
  vlan_read who uses =
      ap swap16 (value_at who e 14 (swap16 e.vlan_id) (omega arith) (rw uses) refl (swapped_fits e.vlan_id))
      ∙ swap_swap e.vlan_id a.vlan_fits

  -- IN_PPORT of one who has it
  port_read : (who : ℕ) → has_user (flow0 + flow10 + flow20) who ≡ true → value own (region_of (flow_fields who e)) 6 ≡ e.in_pport
  unfolding is_listed rule_of rule_in rows flow_has flow_value
  port_read who uses = value_at who e 6 e.in_pport (omega arith) (rw uses) refl a.port_fits

  reads_0 : e.table ≡ 0 → Reads (region_of (flow_fields flow0 e)) e
  unfolding is_listed rule_of rule_in rows has_user flow_has flow_value flow_user pair_alone every_below has_new
  reads_0 z =
      reads flow0 e ports a refl refl (rw z) refl (rw z)
      (match_0 (region_of (flow_fields flow0 e)) e z (port_read flow0 refl) (value_at flow0 e 7 e.in_pport_mask (omega arith) refl refl a.mask_fits))
      (rw z)

  reads_10 : e.table ≡ 10 → Reads (region_of (flow_fields flow10 e)) e
  unfolding is_listed rule_of rule_in rows has_user flow_has flow_value flow_user pair_alone every_below has_new swap16
  reads_10 z =
      let none : eqb e.vlan_id 0 ≡ false → swap16 e.new_vlan_id ≡ 0 = λ p. ap swap16 (a.no_new (rw (z, p))) in
      let new : value own (region_of (flow_fields flow10 e)) 19 ≡ swap16 e.new_vlan_id =
      flow_value_lem flow10 e 19 (omega arith) (swapped_fits e.new_vlan_id) ∙ optional (eqb e.vlan_id 0) (swap16 e.new_vlan_id) none in
      reads flow10 e ports a refl refl (rw z) refl (rw z)
      (match_10 (region_of (flow_fields flow10 e)) e z (port_read flow10 refl) (vlan_read flow10 refl)
      (ap swap16 new ∙ swap_swap e.new_vlan_id a.new_fits))
      (rw z)

  -- ETHERTYPE of one who has it
  ethertype_read : (who : ℕ) → has_user (flow20 + flow30) who ≡ true → ethertype_in own (region_of (flow_fields who e)) ≡ e.ethertype
  unfolding is_listed rule_of rule_in rows flow_has flow_value ethertype_in
  ethertype_read who uses =
      ap swap16 (value_at who e 23 (swap16 e.ethertype) (omega arith) (rw uses) refl (swapped_fits e.ethertype))
      ∙ swap_swap e.ethertype a.ethertype_fits

  -- DST_MAC is there in table 20
  mac_there : e.table ≡ 20 → e.has_mac ≡ true
  unfolding flow_entry stored_flow flow_in match_in
  mac_there z = sym (ap (λ (f : FlowEntry). f.has_mac) a.stored) ∙ rw z

  reads_20 : e.table ≡ 20 → Reads (region_of (flow_fields flow20 e)) e
  unfolding is_listed rule_of rule_in rows has_user flow_has flow_value flow_user pair_alone every_below has_new
  reads_20 z =
      let s = region_of (flow_fields flow20 e) in
      let there = mac_there z in
      reads flow20 e ports a refl refl (rw z) (rw there) (rw z)
      (match_20 s e z (port_read flow20 refl) (ethertype_read flow20 refl) (value_at flow20 e 24 e.dst_mac (omega arith) (rw there) refl a.mac_fits) (vlan_read flow20 refl))
      (rw z)

  -- ---- Table 30

  -- address and mask are read as they are, and the other pair is not there
  address_read : address_of own (route e) e.ethertype (address_field e.ethertype) ≡ destination e
  unfolding route reader flow_user is_listed rule_of rule_in rows has_user flow_has flow_value address_of address_field address_bits address_bytes
  address_read =
      by_test (is_ipv6 e.ethertype)
      (λ p.
      let fits : address_in 128 e.address_high e.address_low < 2 ^ 128 = rw p at a.address_fits in
      rw (p, value_at flow30v6 e 38 _ (omega arith) refl refl (swapped_below 16 _)) (swapped_twice 16 _ fits))
      (λ p.
      let fits : address_in 32 e.address_high e.address_low < 2 ^ 32 = rw p at a.address_fits in
      rw (p, value_at flow30v4 e 36 _ (omega arith) refl refl (swapped_below 4 _)) (swapped_twice 4 _ fits))

  mask_read : address_of own (route e) e.ethertype (mask_field e.ethertype) ≡ prefix_mask (bits_of e) e.prefix
  unfolding route reader flow_user is_listed rule_of rule_in rows has_user flow_has flow_value address_of mask_field address_field address_bits address_bytes
  mask_read =
      by_test (is_ipv6 e.ethertype)
      (λ p. rw (p, value_at flow30v6 e 39 _ (omega arith) refl refl (swapped_below 16 _)) (swapped_twice 16 _ (mask_below 128 e.prefix)))
      (λ p. rw (p, value_at flow30v4 e 37 _ (omega arith) refl refl (swapped_below 4 _)) (swapped_twice 4 _ (mask_below 32 e.prefix)))

  pair_alone_lem : other_absent own (route e) e.ethertype ≡ true
  unfolding route reader flow_user is_listed rule_of rule_in rows has_user other_absent
  pair_alone_lem =
      by_test (is_ipv6 e.ethertype)
      (λ p. rw (p, flow_absent flow30v6 e 36 (omega arith) refl, flow_absent flow30v6 e 37 (omega arith) refl))
      (λ p. rw (p, flow_absent flow30v4 e 38 (omega arith) refl, flow_absent flow30v4 e 39 (omega arith) refl))

  -- its mask is a prefix mask
  prefix_fits : e.table ≡ 30 → e.prefix ≤ bits_of e
  unfolding match_in match_allowed
  prefix_fits z =
      let x = rw z at a.allowed in
      leb-true e.prefix (bits_of e) (and_right (is_routed_type e.ethertype) _ (and_left _ _ (and_left _ _ (and_left _ _ x))))

  reads_30 : e.table ≡ 30 → Reads (route e) e
  unfolding route reader is_listed rule_of rule_in rows has_user flow_has flow_value every_below has_new
  reads_30 z =
      let grouped = of_family e (λ w. has_user (flow30 + flow50 + group_any) w ≡ true) refl refl in
      let type = ethertype_read (reader e) (of_family e (λ w. has_user (flow20 + flow30) w ≡ true) refl refl) in
      let group : value own (route e) 10 ≡ e.group_id =
      flow_value_lem (reader e) e 10 (omega arith) a.group_fits ∙ rw grouped (optional e.has_group e.group_id a.no_group) in
      reads (reader e) e ports a (of_family e (λ w. has_user flow_any w ≡ true) refl refl) (of_family e (λ w. has_user (flow_any + flow_del) w ≡ true) refl refl) (user_30 (route e) e z type)
      (of_family e (λ w. every_below field_types (λ t. not (has_user (rule_of t).needs w) || flow_has e t) ≡ true) refl refl)
      (pair_30 (route e) e z type pair_alone_lem)
      (match_30 (route e) e z type address_read (ap (prefix_length (bits_of e)) mask_read ∙ length_of_mask (bits_of e) e.prefix (prefix_fits z)) (flow_given (reader e) e 10 (omega arith) ∙ rw grouped) group a.high_aligned a.low_aligned)
      (rw z (of_family e (λ w. is_listed w (flow_has e) 19 ≡ false) refl refl))

  reads_50 : e.table ≡ 50 → Reads (region_of (flow_fields flow50 e)) e
  unfolding is_listed rule_of rule_in rows has_user flow_has flow_value flow_user pair_alone every_below has_new
  reads_50 z =
      let s = region_of (flow_fields flow50 e) in
      let mac : value own s 24 ≡ e.dst_mac =
      flow_value_lem flow50 e 24 (omega arith) a.mac_fits ∙ optional e.has_mac e.dst_mac a.no_mac in
      let group : value own s 10 ≡ e.group_id =
      flow_value_lem flow50 e 10 (omega arith) a.group_fits ∙ optional e.has_group e.group_id a.no_group in
      reads flow50 e ports a refl refl (rw z) refl (rw z)
      (match_50 s e z (vlan_read flow50 refl) (flow_given flow50 e 24 (omega arith)) mac (flow_given flow50 e 10 (omega arith)) group)
      (rw z)

  of_user : (who : ℕ) → flow_user e.table e.ethertype ≡ who → Reads (region_of (flow_fields who e)) e
      → Reads (region_of (flow_fields (flow_user e.table e.ethertype) e)) e
  of_user who u r = rw u r

  flow_reads : Reads (region_of (flow_fields (flow_user e.table e.ethertype) e)) e
  unfolding flow_user reader route
  flow_reads =
      by_table e.table a.is_table
      (λ z. of_user flow0 (rw z) (reads_0 z))
      (λ z. of_user flow10 (rw z) (reads_10 z))
      (λ z. of_user flow20 (rw z) (reads_20 z))
      (λ z. of_user (reader e) (rw z) (reads_30 z))
      (λ z. of_user flow50 (rw z) (reads_50 z))

  -- both commands carry the entry's own flow
  flow_carried : (make : Flow → Command) → flow_from (current_terms ports) (region_of (flow_fields (flow_user e.table e.ethertype) e)) make ≡ carried (make (flow_in e)) []
  flow_carried make = decodes ports e (region_of (flow_fields (flow_user e.table e.ethertype) e)) make a flow_reads

  -- a del carries its key
  key_carried : flow_key_in (current_terms ports) (region_of (flow_fields flow_del e)) ≡ carried (FlowDel e.cookie) []
  unfolding flow_key_in need is_listed rule_of rule_in rows has_user flow_has flow_value every_below
  key_carried = rw (flow_right flow_del e refl, value_at flow_del e 5 e.cookie (omega arith) refl refl a.cookie_fits)

-- a payload's command is decoded from its fields, whatever the entry
flow_decoded : (ports command who : ℕ) (e : FlowEntry) → command < 2 ^ 16 → is_command command ≡ true
    → decode (current_terms ports) (payload_of command (flow_fields who e)) ≡ command_in (current_terms ports) command (region_of (flow_fields who e))
flow_decoded ports command who e h known =
    let l = flow_length who e in
    decode_payload command (flow_fields who e) h (omega arith) ports known (flow_encodable who e)

module _ (ports : ℕ) (e : FlowEntry) (a : FlowAdmitted ports e) where
  pub decode_add : decode (current_terms ports) (flow_payload 3 e) ≡ carried (FlowAdd (flow_in e)) []
  unfolding flow_payload is_command command_in
  decode_add = flow_decoded ports 3 (flow_user e.table e.ethertype) e (omega arith) refl ∙ flow_carried ports e a FlowAdd

  pub decode_mod : decode (current_terms ports) (flow_payload 4 e) ≡ carried (FlowMod (flow_in e)) []
  unfolding flow_payload is_command command_in
  decode_mod = flow_decoded ports 4 (flow_user e.table e.ethertype) e (omega arith) refl ∙ flow_carried ports e a FlowMod

  pub decode_del : decode (current_terms ports) (flow_payload 5 e) ≡ carried (FlowDel e.cookie) []
  unfolding flow_payload is_command command_in
  decode_del = flow_decoded ports 5 flow_del e (omega arith) refl ∙ key_carried ports e a

  -- THE ROUND TRIP: what each payload does to any tables
  pub flow_add : (t : Tables) → execute (current_terms ports) (flow_payload 3 e) t
      ≡ executed t (add_status (holds cookie_of) max_flows e.cookie t.flows) (with_flows t (insert cookie_of e t.flows))
  unfolding execute_in carry_out_in carried decoded_status_in decoded_effect_in command_status_in command_effect_in flow_in
  flow_add t = rw (decode_add, a.stored)

  pub flow_mod : (t : Tables) → execute (current_terms ports) (flow_payload 4 e) t
      ≡ executed t (held_status (holds cookie_of) e.cookie t.flows) (with_flows t (replace cookie_of e t.flows))
  unfolding execute_in carry_out_in carried decoded_status_in decoded_effect_in command_status_in command_effect_in flow_in
  flow_mod t = rw (decode_mod, a.stored)

  pub flow_del_lem : (t : Tables) → execute (current_terms ports) (flow_payload 5 e) t
      ≡ executed t (held_status (holds cookie_of) e.cookie t.flows) (with_flows t (remove cookie_of e.cookie t.flows))
  unfolding execute_in carry_out_in carried decoded_status_in decoded_effect_in command_status_in command_effect_in
  flow_del_lem t = rw decode_del

-- ---- Length

pub flow_short : (command : ℕ) (e : FlowEntry) → length (flow_payload command e) ≤ 4096
unfolding flow_payload
flow_short command e =
    let who = choose (eqb command 5) flow_del (flow_user e.table e.ethertype) in
    let l = flow_length who e in
    omega (arith, length_payload command (flow_fields who e), l)
