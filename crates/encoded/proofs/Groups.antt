-- A group's payload read back by a device: what each look-up finds in its fields, what decoding makes of these, and so what carrying it out does.
-- Assumes nothing.
use Prim.Native.Nat.{ℕ, ◌≤◌, ◌<◌, ◌^◌}
use mathlib.Core.Bool.{Bool, true, false, not, ◌||◌}
use mathlib.Core.Path.{◌≡◌, refl, sym, ap, ◌∙◌}
use mathlib.Core.List.{List, [], ◌∷◌}
use native.Mathlib.Omega.{arith}
use lib.ListN.{length, take, get_or}
use lib.Seq.{take-append_seam}
use lib.Dec.{leb, eqb}
use borrow.Author.Tests.{leb-true, le-leb, eq-eqb, ne_eqb}
use Rattle.rules.specs.Choose.{choose}
use Rattle.rules.specs.Limits.{field_types, max_groups, max_payload}
use Rattle.rules.specs.Bytes.{swap16}
use Rattle.rules.specs.Region.{filled, fits_width}
use Rattle.rules.specs.Fields.{rows, rule_in, rule_of, has_user, field, value, nest_in, every_below, fields_right, group0, group2, group_many, group_del}
use Rattle.rules.specs.GroupId.{group_type, group_vlan, group_low, vlan_allowed, is_routing, member_id}
use Rattle.rules.specs.Members.{members_right, pad}
use Rattle.rules.specs.Registers.{current_terms}
use Rattle.rules.specs.Keyed.{holds, insert, replace, remove}
use Rattle.rules.specs.Decode.{need, carried, group_of, members_of, lower_fits, group_allowed, group_user, group_in, group_key_in, is_command, command_in}
use Rattle.rules.specs.Tables.{Tables, id_of, group_entry, with_groups, add_status, held_status, command_status, command_status_in, command_effect, command_effect_in, decoded_status_in, decoded_effect_in, executed, carry_out_in, execute, execute_in}
use Rattle.rules.specs.Encode.{region_of, payload_of, number_bytes, member_fields, group_value, group_bytes, group_fields}
use Rattle.rules.specs.Undo.{group_payload}
use Rattle.rules.specs.declared.Group.{Group}
use Rattle.rules.specs.declared.Command.{Command}
use Rattle.rules.specs.declared.Command.TheVariants.{GroupAdd, GroupMod, GroupDel}
use Rattle.rules.specs.declared.GroupEntry.{GroupEntry}
use Rattle.rules.proofs.Cases.{by_test, by_eq, and_right}
use Rattle.rules.proofs.GroupId.{member_type, member_vlan, member_low, vlan_below, low_below}
use Rattle.encoded.specs.Placed.{own}
use Rattle.encoded.specs.Admitted.{GroupAdmitted}
use Rattle.encoded.proofs.Region.{is_listed, fields_encodable, value_field, nest_field, fields_right_lem, sum_from, length_fields, length_payload, decode_payload}
use Rattle.encoded.proofs.Flows.{swapped_fits, swap_swap, wide_number, few_bytes, number_read}
use Rattle.encoded.proofs.Members.{members_length, members_read}

-- ---- An entry

-- what a command tells of it beside its members
abbrev head_of : GroupEntry → Group
head_of e =
    record { id = e.id; pop_vlan = e.pop_vlan; member_count = e.member_count; vlan_id = e.vlan_id; src_mac = e.src_mac; dst_mac = e.dst_mac }

-- POP_VLAN is 1 or 0
bit_read : (b : Bool) → eqb (choose b 1 0) 1 ≡ b
bit_read true = refl
bit_read false = refl

bit_fits : (b : Bool) → choose b 1 0 < 256
bit_fits true = omega arith
bit_fits false = omega arith

bit_small : (b : Bool) → leb (choose b 1 0) 1 ≡ true
bit_small true = refl
bit_small false = refl

-- a VLAN that a group may have is one that an ID holds
vlan_small : (v : ℕ) → vlan_allowed v ≡ true → v < 4096
unfolding vlan_allowed
vlan_small v h = omega (arith, leb-true v 4094 (and_right (leb 1 v) (leb v 4094) h))

-- a list of one number
alone : (l : List ℕ) → length l ≡ 1 → l ≡ get_or l 0 0 ∷ []
alone [] h = absurd (omega arith)
alone (x ∷ []) h = refl
alone (x ∷ y ∷ l) h = absurd (omega arith)

-- all but GROUP_IDS are numbers
number_bytes_lem : (e : GroupEntry) (t : ℕ) → (t ≡ 13 → ⊥) → group_bytes e t ≡ number_bytes t (group_value e t)
unfolding group_bytes
number_bytes_lem e t h = rw (ne_eqb t 13 h)

module _ (ports : ℕ) (e : GroupEntry) (a : GroupAdmitted ports e) where
  -- the members that are written
  members_written : take e.member_count e.members ≡ a.lows
  unfolding pad
  members_written = rw (a.members_are, a.count_is) (take-append_seam a.lows _)

  -- the lower group of type 2
  module _ (y : group_type e.id ≡ 2) where
    lower_is : member_id e.vlan_id (get_or e.members 0 0) ≡ member_id e.vlan_id (get_or a.lows 0 0)
    unfolding pad
    lower_is = rw (a.members_are, alone a.lows (a.routing y).0)

    lower_fits_lem : member_id e.vlan_id (get_or a.lows 0 0) < 2 ^ 32
    unfolding member_id
    lower_fits_lem = omega (arith, vlan_small e.vlan_id (a.routing y).1, a.lows_fit 0)

  -- the entry is stored as it was
  stored : group_entry (head_of e) (pad a.lows) ≡ e
  unfolding group_entry
  stored = rw (← a.members_are)

  -- ---- Its fields

  nest_bytes : group_bytes e 13 ≡ region_of (member_fields (group_vlan e.id) 1 a.lows)
  unfolding group_bytes
  nest_bytes = rw members_written

  nest_length : length (group_bytes e 13) ≤ 992
  nest_length = rw nest_bytes (omega (arith, members_length (group_vlan e.id) 1 a.lows (omega arith) (omega (arith, a.at_most)), a.at_most))

  short : (t : ℕ) → length (group_bytes e t) ≤ choose (eqb t 13) 992 16
  short t = by_eq t 13 (λ h p. rw p (rw h nest_length)) (λ h p. rw (p, number_bytes_lem e t h) (few_bytes t (group_value e t)))

  encodable_length : (t : ℕ) → length (group_bytes e t) ≤ max_payload
  encodable_length t = by_eq t 13 (λ h p. let l = short t in omega (arith, simp p at l)) (λ h p. let l = short t in omega (arith, simp p at l))

  wide : (t : ℕ) → fits_width (rule_of t).width (length (group_bytes e t)) ≡ true
  wide t =
      by_eq t 13
      (λ h p. rw h (unfold fits_width rule_of rule_in rows in refl))
      (λ h p. rw (number_bytes_lem e t h) (wide_number t (group_value e t)))

  -- what is read of one that is listed for `who`
  module _ (who : ℕ) where
    value_read : (k v : ℕ) → k < field_types → (k ≡ 13 → ⊥) → is_listed who (λ t. true) k ≡ true
        → group_value e k ≡ v → v < 256 ^ (rule_of k).width → value own (region_of (group_fields who e)) k ≡ v
    unfolding group_fields
    value_read k v below plain listed is fits =
        value_field who (λ t. true) (group_bytes e) encodable_length wide k below
        ∙ rw (listed, number_bytes_lem e k plain, is) (number_read k v fits)

    nest_read : is_listed who (λ t. true) 13 ≡ true
        → nest_in (region_of (group_fields who e)) (field own (region_of (group_fields who e)) 13) ≡ region_of (member_fields (group_vlan e.id) 1 a.lows)
    unfolding group_fields
    nest_read listed = nest_field who (λ t. true) (group_bytes e) encodable_length wide 13 (omega arith) ∙ rw (listed, nest_bytes)

    all_right : every_below field_types (λ t. not (has_user (rule_of t).needs who) || true) ≡ true
        → fields_right own (region_of (group_fields who e)) who ≡ true
    unfolding group_fields
    all_right every = fields_right_lem who (λ t. true) (group_bytes e) encodable_length wide every

    id_read : is_listed who (λ t. true) 10 ≡ true → value own (region_of (group_fields who e)) 10 ≡ e.id
    unfolding group_value rule_of rule_in rows
    id_read listed = value_read 10 e.id (omega arith) (λ h. absurd (omega arith)) listed refl a.id_fits

  -- ---- What decoding makes of a region that tells it
  module _ (s : List ℕ) (i : value own s 10 ≡ e.id) where
    single_in : (make : Group → Command) → group_type e.id ≡ 0 → fields_right own s group0 ≡ true
        → value own s 8 ≡ group_low e.id → value own s 43 ≡ choose e.pop_vlan 1 0
        → group_in (current_terms ports) s make ≡ carried (make (head_of e)) a.lows
    unfolding group_in group_user group_allowed group_of members_of need
    single_in make z r p v =
        let none : a.lows ≡ [] = (a.single z).0 in
        let port : group_low e.id ≤ ports = (a.single z).1 in
        let count : e.member_count ≡ 0 = a.count_is ∙ ap length none in
        let rest = a.no_routing (λ y. absurd (omega arith)) in
        rw (i, z, r, a.id_allowed, p, v, none, count, rest.0, rest.1, rest.2, eq-eqb (group_low e.id) (group_low e.id) refl, le-leb _ _ port, bit_small e.pop_vlan, bit_read e.pop_vlan)

    -- the lower group is a group of type 0 with the VLAN, so its low bits say which it is
    routing_in : (make : Group → Command) → group_type e.id ≡ 2 → fields_right own s group2 ≡ true
        → value own s 11 ≡ member_id e.vlan_id (get_or a.lows 0 0) → swap16 (value own s 14) ≡ e.vlan_id
        → value own s 26 ≡ e.src_mac → value own s 24 ≡ e.dst_mac
        → group_in (current_terms ports) s make ≡ carried (make (head_of e)) a.lows
    unfolding group_in group_user group_allowed group_of members_of lower_fits is_routing need
    routing_in make z r lower v source target =
        let one = a.routing z in
        let vlan = e.vlan_id in
        let low = get_or a.lows 0 0 in
        let small : vlan < 4096 = vlan_small vlan one.1 in
        let fits = a.lows_fit 0 in
        let are : low ∷ [] ≡ a.lows = sym (alone a.lows one.0) in
        let count : e.member_count ≡ 1 = a.count_is ∙ one.0 in
        rw (i, z, r, a.id_allowed, lower, v, one.1, member_type vlan low small fits, member_vlan vlan low small fits, eq-eqb vlan vlan refl, member_low vlan low small fits, source, target, are, count, one.2)

    many_in : (make : Group → Command) → (group_type e.id ≡ 0 → ⊥) → (group_type e.id ≡ 2 → ⊥) → fields_right own s group_many ≡ true
        → value own s 12 ≡ e.member_count → nest_in s (field own s 13) ≡ region_of (member_fields (group_vlan e.id) 1 a.lows)
        → group_in (current_terms ports) s make ≡ carried (make (head_of e)) a.lows
    unfolding group_in group_user group_allowed group_of members_of members_right is_routing need
    many_in make z y r c n =
        let some : 1 ≤ length a.lows = (a.many z y).0 in
        let rest = a.no_routing y in
        rw (i, ne_eqb (group_type e.id) 0 z, ne_eqb (group_type e.id) 2 y, r, rest.0, rest.1, rest.2, a.id_allowed, n, members_read (group_vlan e.id) a.lows (vlan_below e.id) a.at_most a.lows_fit a.fresh, c, a.count_is, le-leb 1 (length a.lows) some, le-leb (length a.lows) 62 a.at_most, eq-eqb (length a.lows) (length a.lows) refl, (a.many z y).1)

    key_in : fields_right own s group_del ≡ true → group_key_in (current_terms ports) s ≡ carried (GroupDel e.id) []
    unfolding group_key_in need
    key_in r = rw (r, i, a.id_allowed)

  -- ---- What its payloads do

  group_in_lem : (make : Group → Command) → group_in (current_terms ports) (region_of (group_fields (group_user e.id) e)) make ≡ carried (make (head_of e)) a.lows
  unfolding group_user is_routing is_listed has_user rule_of rule_in rows every_below group_value
  group_in_lem make =
      by_eq (group_type e.id) 0
      (λ z p.
      rw p
      (single_in (region_of (group_fields group0 e)) (id_read group0 refl) make z (all_right group0 refl)
      (value_read group0 8 (group_low e.id) (omega arith) (λ h. absurd (omega arith)) refl refl (omega (arith, low_below e.id)))
      (value_read group0 43 (choose e.pop_vlan 1 0) (omega arith) (λ h. absurd (omega arith)) refl refl (bit_fits e.pop_vlan))))
      (λ z p. by_eq (group_type e.id) 2
      (λ y q.
      rw (p, q)
      (routing_in (region_of (group_fields group2 e)) (id_read group2 refl) make y (all_right group2 refl)
      (value_read group2 11 (member_id e.vlan_id (get_or a.lows 0 0)) (omega arith) (λ h. absurd (omega arith)) refl (lower_is y) (lower_fits_lem y))
      (ap swap16 (value_read group2 14 (swap16 e.vlan_id) (omega arith) (λ h. absurd (omega arith)) refl refl (swapped_fits e.vlan_id))
      ∙ swap_swap e.vlan_id a.vlan_fits)
      (value_read group2 26 e.src_mac (omega arith) (λ h. absurd (omega arith)) refl refl a.src_fits)
      (value_read group2 24 e.dst_mac (omega arith) (λ h. absurd (omega arith)) refl refl a.dst_fits)))
      (λ y q.
      rw (p, q)
      (many_in (region_of (group_fields group_many e)) (id_read group_many refl) make z y (all_right group_many refl)
      (value_read group_many 12 e.member_count (omega arith) (λ h. absurd (omega arith)) refl refl (omega (arith, a.count_is, a.at_most)))
      (nest_read group_many refl))))

  group_key_in_lem : group_key_in (current_terms ports) (region_of (group_fields group_del e)) ≡ carried (GroupDel e.id) []
  unfolding is_listed has_user rule_of rule_in rows every_below
  group_key_in_lem = key_in (region_of (group_fields group_del e)) (id_read group_del refl) (all_right group_del refl)

  -- short enough for its length field, and for a payload: were all 44 types there, each would have 24 bytes, the nest 1,000
  fields_short : (who : ℕ) → length (region_of (group_fields who e)) ≤ 2032
  unfolding group_fields sum_from filled
  fields_short who =
      length_fields who (λ t. true) (group_bytes e) (λ t. choose (eqb t 13) 1000 24)
      (λ t. let l = short t in by_test (eqb t 13) (λ p. rw p (omega (arith, simp p at l))) (λ p. rw p (omega (arith, simp p at l))))

  payload_short : (command : ℕ) → length (group_payload command e) ≤ 4096
  unfolding group_payload
  payload_short command =
      let who = choose (eqb command 9) group_del (group_user e.id) in
      omega (arith, length_payload command (group_fields who e), fields_short who)

  -- carried out, it is the command that its fields decode to
  module _ (t : Tables) where
    carries : (who command : ℕ) (c : Command) (lows : List ℕ) → command < 2 ^ 16 → is_command command ≡ true
        → command_in (current_terms ports) command (region_of (group_fields who e)) ≡ carried c lows
        → execute (current_terms ports) (payload_of command (group_fields who e)) t ≡ executed t (command_status t c) (command_effect t c (pad lows))
    unfolding execute_in carry_out_in carried decoded_status_in decoded_effect_in group_fields
    carries who command c lows fits known is =
        let encodable = fields_encodable who (λ t. true) (group_bytes e) encodable_length in
        let decoded = decode_payload command (group_fields who e) fits (omega (arith, fields_short who)) ports known encodable in
        rw (decoded, is)

    pub group_add : execute (current_terms ports) (group_payload 7 e) t ≡ executed t (add_status (holds id_of) max_groups e.id t.groups) (with_groups t (insert id_of e t.groups))
    unfolding group_payload is_command command_in command_status_in command_effect_in
    group_add =
        carries (group_user e.id) 7 (GroupAdd (head_of e)) a.lows (omega arith) refl (group_in_lem GroupAdd)
        ∙ rw stored

    pub group_mod : execute (current_terms ports) (group_payload 8 e) t ≡ executed t (held_status (holds id_of) e.id t.groups) (with_groups t (replace id_of e t.groups))
    unfolding group_payload is_command command_in command_status_in command_effect_in
    group_mod =
        carries (group_user e.id) 8 (GroupMod (head_of e)) a.lows (omega arith) refl (group_in_lem GroupMod)
        ∙ rw stored

    pub group_del_lem : execute (current_terms ports) (group_payload 9 e) t ≡ executed t (held_status (holds id_of) e.id t.groups) (with_groups t (remove id_of e.id t.groups))
    unfolding group_payload is_command command_in command_status_in command_effect_in
    group_del_lem = carries group_del 9 (GroupDel e.id) [] (omega arith) refl group_key_in_lem

pub group_short : (ports command : ℕ) (e : GroupEntry) → GroupAdmitted ports e → length (group_payload command e) ≤ 4096
group_short ports command e a = payload_short ports e a command
