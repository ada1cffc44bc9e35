-- What decoding gives is admitted: numbers fit since bytes do, a field that is not there reads 0, and the tests of decoding are those of an
-- admitted entry. Changes of a table keep what holds of each entry, so every payload of bytes keeps admitted tables.
-- Assumes nothing.
use Prim.Native.Nat.{ℕ, zero, suc, ◌+◌, ◌≤◌, ◌<◌, ◌-◌, ◌*◌, ◌^◌}
use mathlib.Core.Bool.{Bool, true, false, not, ◌&&◌, ◌||◌}
use mathlib.Core.Path.{◌≡◌, refl, sym, ◌∙◌}
use mathlib.Core.List.{List, [], ◌∷◌, ◌++◌, append_assoc, append-nil}
use native.Mathlib.Omega.{arith}
use native.Mathlib.Nat.{one-le-pow}
use lib.Dec.{ltb, leb, eqb, lit<}
use lib.ListN.{length, get_or, take, drop}
use lib.Seq.{get_or-drop}
use borrow.Author.Tests.{eqb-true, leb-true, not-true}
use Rattle.rules.specs.Choose.{choose}
use Rattle.rules.specs.Limits.{max_ports}
use Rattle.rules.specs.Answers.{code}
use Rattle.rules.specs.Bytes.{le_at, part, swap16}
use Rattle.rules.specs.Version.{current, routes}
use Rattle.rules.specs.Address.{is_ipv6, address_bytes, address_bits, aligned_high, aligned_low, address_in}
use Rattle.rules.specs.Fields.{rows, rule_in, rule_of, field, given, value, is_at, number_in, nest_in, fields_right}
use Rattle.rules.specs.Region.{tlvs, well_formed}
use Rattle.rules.specs.Keyed.{insert, replace, remove}
use Rattle.rules.specs.GroupId.{group_type, group_vlan, group_low, vlan_allowed, is_routing, group_id_allowed}
use Rattle.rules.specs.Members.{elem, member_right, collect, members_in, members_right, pad}
use Rattle.rules.specs.Decode.{header_of, ethertype_in, address_field, address_of, route_of, new_vlan_fits, match_allowed, match_of, flow_of, flow_user, is_table, pair_alone, flow_in, flow_key_in, group_of, members_of, lower_fits, group_allowed, group_user, group_in, group_key_in, refused, carried, need, command_in, command_info, decode}
use Rattle.rules.specs.Tables.{Tables, stored_flow, flow_entry, group_entry, cookie_of, id_of, empty_tables, with_flows, with_groups, command_effect, command_effect_in, decoded_status, decoded_effect, decoded_effect_in, executed, carry_out_in, execute, execute_in}
use Rattle.rules.specs.declared.Terms.{Terms}
use Rattle.rules.specs.declared.Tlv.{Tlv}
use Rattle.rules.specs.declared.Found.{Found}
use Rattle.rules.specs.declared.Found.TheVariants.{Absent, At, Fault}
use Rattle.rules.specs.declared.Match.{Match}
use Rattle.rules.specs.declared.Match.TheVariants.{IngressPort, Vlan, TerminationMac, UnicastRouting, Bridging}
use Rattle.rules.specs.declared.Flow.{Flow}
use Rattle.rules.specs.declared.Group.{Group}
use Rattle.rules.specs.declared.Status.{Status}
use Rattle.rules.specs.declared.Status.TheVariants.{Einval, Enotsup}
use Rattle.rules.specs.declared.Command.{Command}
use Rattle.rules.specs.declared.Command.TheVariants.{FlowAdd, FlowMod, FlowDel, GroupAdd, GroupMod, GroupDel}
use Rattle.std.specs.Prelude.{Result, Ok as Carry, Err as Refused}
use Rattle.rules.specs.declared.Decoding.{Decoding}
use Rattle.rules.specs.declared.GroupEntry.{GroupEntry}
use Rattle.rules.proofs.Cases.{by_test, by_eq, and_left, and_right, not_both}
use Rattle.rules.proofs.Bytes.{le_at_below}
use Rattle.rules.proofs.Address.{swapped_below, aligned_in}
use Rattle.rules.proofs.GroupId.{low_below}
use Rattle.encoded.specs.Admitted.{AreBytes, match_in, flow_in as stored_from, has_new, FlowAdmitted, Fresh, GroupAdmitted, Each, Admitted}

-- ---- Parts of bytes are bytes

pub bytes_drop : (n : ℕ) (s : List ℕ) → AreBytes s → AreBytes (drop n s)
bytes_drop n s b = λ j. rw get_or-drop (b (n + j))

bytes_cons : (x : ℕ) (s : List ℕ) → x < 256 → AreBytes s → (j : ℕ) → get_or (x ∷ s) j 0 < 256
bytes_cons x s h b zero = h
bytes_cons x s h b (suc j) = b j

pub bytes_take : (n : ℕ) (s : List ℕ) → AreBytes s → AreBytes (take n s)
bytes_take zero s b = λ j. lit< tt
bytes_take (suc n) [] b = b
bytes_take (suc n) (x ∷ s) b = bytes_cons x (take n s) (b 0) (bytes_take n s (λ j. b (suc j)))

bytes_nest : (s : List ℕ) (f : Found) → AreBytes s → AreBytes (nest_in s f)
unfolding nest_in part
bytes_nest s Absent b = λ j. lit< tt
bytes_nest s (At a n) b = bytes_take n (drop a s) (bytes_drop a s b)
bytes_nest s Fault b = λ j. lit< tt

-- ---- Numbers of a region

number_below : (s : List ℕ) (w : ℕ) (f : Found) → AreBytes s → number_in s w f < 256 ^ w
unfolding number_in
number_below s w Absent b = one-le-pow w 256 (lit< tt)
number_below s w (At a n) b = le_at_below w s a b
number_below s w Fault b = one-le-pow w 256 (lit< tt)

value_below : (h : ℕ) (s : List ℕ) (t : ℕ) → AreBytes s → value h s t < 256 ^ (rule_of t).width
unfolding value
value_below h s t b = number_below s (rule_of t).width (field h s t) b

number_missing : (s : List ℕ) (w : ℕ) (f : Found) → is_at f ≡ false → number_in s w f ≡ 0
unfolding number_in is_at
number_missing s w Absent e = refl
number_missing s w (At a n) e = not_both e
number_missing s w Fault e = refl

-- what is not given reads 0
value_missing : (h : ℕ) (s : List ℕ) (t : ℕ) → given h s t ≡ false → value h s t ≡ 0
unfolding value given
value_missing h s t e = number_missing s (rule_of t).width (field h s t) e

swap_below : (v : ℕ) → swap16 v < 2 ^ 16
unfolding swap16
swap_below v = omega arith

-- ---- Flows

-- the fields that every table has
record CommonFits (f : Flow) : Type 0 where
  cookie_fits : f.cookie < 2 ^ 64
  priority_fits : f.priority < 2 ^ 32
  hardtime_fits : f.hardtime < 2 ^ 32
  idletime_fits : f.idletime < 2 ^ 32
  goto_fits : f.goto_tbl < 2 ^ 16

-- two words are those of the address that stands in them
record Aligned (w high low : ℕ) : Type 0 where
  fits : address_in w high low < 2 ^ w
  high_is : aligned_high w (address_in w high low) ≡ high
  low_is : aligned_low w (address_in w high low) ≡ low

aligned : (w a : ℕ) → a < 2 ^ w → Aligned w (aligned_high w a) (aligned_low w a)
aligned w a h =
    let e : address_in w (aligned_high w a) (aligned_low w a) ≡ a = aligned_in w a in
    record { fits = rw e h; high_is = rw e; low_is = rw e }

none_aligned : (w : ℕ) → Aligned w 0 0
unfolding aligned_high aligned_low
none_aligned w = let z : 0 * 2 ^ (128 - w) ≡ 0 = omega arith in rw z at (aligned w 0 (one-le-pow w 2 (lit< tt)))

-- those of one table, given whether NEW_VLAN_ID is there
abbrev MatchFits : Bool → Match → Type 0
MatchFits new (IngressPort p m) = (p < 2 ^ 32) × (m < 2 ^ 32)
MatchFits new (Vlan p v n) = (p < 2 ^ 32) × (v < 2 ^ 16) × (n < 2 ^ 16) × (new ≡ false → n ≡ 0)
MatchFits new (TerminationMac p type m v) = (p < 2 ^ 32) × (type < 2 ^ 16) × (m < 2 ^ 48) × (v < 2 ^ 16)
MatchFits new (UnicastRouting type high low n hg id) = (type < 2 ^ 16) × Aligned (address_bits type) high low × (id < 2 ^ 32) × (hg ≡ false → id ≡ 0)
MatchFits new (Bridging v hm m hg id) = (v < 2 ^ 16) × (m < 2 ^ 48) × (id < 2 ^ 32) × (hm ≡ false → m ≡ 0) × (hg ≡ false → id ≡ 0)

common_fits : (h : ℕ) (s : List ℕ) (t : ℕ) → AreBytes s → CommonFits (flow_of h s t)
unfolding flow_of rule_of rule_in rows
common_fits h s t b =
    record {
      cookie_fits = value_below h s 5 b;
      priority_fits = value_below h s 2 b;
      hardtime_fits = value_below h s 3 b;
      idletime_fits = value_below h s 4 b;
      goto_fits = value_below h s 9 b;
    }

swap_zero : (v : ℕ) → v ≡ 0 → swap16 v ≡ 0
unfolding swap16
swap_zero v e = omega arith

-- an address of either family, as it was given
address_aligned : (h : ℕ) (s : List ℕ) (type : ℕ) → let a = address_of h s type (address_field type) in
    Aligned (address_bits type) (aligned_high (address_bits type) a) (aligned_low (address_bits type) a)
unfolding address_of address_bits address_bytes
address_aligned h s type =
    let v = value h s (address_field type) in
    aligned (address_bits type) (address_of h s type (address_field type))
    (by_test (is_ipv6 type) (λ p. rw p (swapped_below 16 v)) (λ p. rw p (swapped_below 4 v)))

match_fits : (h : ℕ) (s : List ℕ) (t : ℕ) → AreBytes s → MatchFits (given h s 19) (match_of h s t)
unfolding match_of route_of ethertype_in rule_of rule_in rows
match_fits h s t b =
    by_test (eqb t 0)
    (λ p. rw p (value_below h s 6 b, value_below h s 7 b))
    (λ p. by_test (eqb t 10)
    (λ q. rw (p, q) (value_below h s 6 b, swap_below (value h s 14), swap_below (value h s 19), λ e. swap_zero (value h s 19) (value_missing h s 19 e)))
    (λ q. by_test (eqb t 20)
    (λ r. rw (p, q, r) (value_below h s 6 b, swap_below (value h s 23), value_below h s 24 b, swap_below (value h s 14)))
    (λ r. by_test (eqb t 30)
    (λ u. rw (p, q, r, u) (swap_below (value h s 23), address_aligned h s (ethertype_in h s), value_below h s 10 b, value_missing h s 10))
    (λ u. rw (p, q, r, u) (swap_below (value h s 14), value_below h s 24 b, value_below h s 10 b, value_missing h s 24, value_missing h s 10)))))

-- NEW_VLAN_ID is there exactly if VLAN_ID is 0
new_there : (v : ℕ) (new : Bool) (n : ℕ) → new_vlan_fits v new n ≡ true → new ≡ eqb v 0
unfolding new_vlan_fits
new_there v new n e =
    by_test (eqb v 0)
    (λ p. rw p (and_left new (vlan_allowed n) (simp p at e)))
    (λ p. rw p (not-true new (and_left (not new) (vlan_allowed v) (simp p at e))))

stored_admits : (terms : Terms) (f : Flow) (new : Bool) (m : Match) → CommonFits f → MatchFits new m
    → match_allowed terms f.goto_tbl new m ≡ true → FlowAdmitted terms.ports (stored_flow f m)
unfolding stored_flow flow_entry stored_from match_in has_new is_table routes match_allowed is_ipv6 address_bytes address_bits
stored_admits terms f new (IngressPort p m) c h e =
    record {
      is_table = refl;
      cookie_fits = c.cookie_fits;
      mac_fits = lit< tt;
      priority_fits = c.priority_fits;
      hardtime_fits = c.hardtime_fits;
      idletime_fits = c.idletime_fits;
      port_fits = h.0;
      mask_fits = h.1;
      group_fits = lit< tt;
      goto_fits = c.goto_fits;
      vlan_fits = lit< tt;
      new_fits = lit< tt;
      ethertype_fits = lit< tt;
      address_fits = (none_aligned 32).fits;
      high_aligned = (none_aligned 32).high_is;
      low_aligned = (none_aligned 32).low_is;
      stored = refl;
      no_new = λ x. refl;
      no_mac = λ x. refl;
      no_group = λ x. refl;
      allowed = e;
    }
stored_admits terms f new (Vlan p v n) c h e =
    let goto = eqb f.goto_tbl 20 || eqb f.goto_tbl 0 in
    let there : new ≡ eqb v 0 = new_there v new n (and_right (leb 1 p && leb p terms.ports && goto) (new_vlan_fits v new n) e) in
    record {
      is_table = refl;
      cookie_fits = c.cookie_fits;
      mac_fits = lit< tt;
      priority_fits = c.priority_fits;
      hardtime_fits = c.hardtime_fits;
      idletime_fits = c.idletime_fits;
      port_fits = h.0;
      mask_fits = lit< tt;
      group_fits = lit< tt;
      goto_fits = c.goto_fits;
      vlan_fits = h.1;
      new_fits = h.2;
      ethertype_fits = lit< tt;
      address_fits = (none_aligned 32).fits;
      high_aligned = (none_aligned 32).high_is;
      low_aligned = (none_aligned 32).low_is;
      stored = refl;
      no_new = λ x. h.3 (there ∙ x);
      no_mac = λ x. refl;
      no_group = λ x. refl;
      allowed = rw (← there) e;
    }
stored_admits terms f new (TerminationMac p type m v) c h e =
    record {
      is_table = refl;
      cookie_fits = c.cookie_fits;
      mac_fits = h.2;
      priority_fits = c.priority_fits;
      hardtime_fits = c.hardtime_fits;
      idletime_fits = c.idletime_fits;
      port_fits = h.0;
      mask_fits = lit< tt;
      group_fits = lit< tt;
      goto_fits = c.goto_fits;
      vlan_fits = h.3;
      new_fits = lit< tt;
      ethertype_fits = h.1;
      address_fits = (none_aligned (address_bits type)).fits;
      high_aligned = (none_aligned (address_bits type)).high_is;
      low_aligned = (none_aligned (address_bits type)).low_is;
      stored = refl;
      no_new = λ x. refl;
      no_mac = λ x. not_both x;
      no_group = λ x. refl;
      allowed = e;
    }
stored_admits terms f new (UnicastRouting type high low n hg id) c h e =
    record {
      is_table = refl;
      cookie_fits = c.cookie_fits;
      mac_fits = lit< tt;
      priority_fits = c.priority_fits;
      hardtime_fits = c.hardtime_fits;
      idletime_fits = c.idletime_fits;
      port_fits = lit< tt;
      mask_fits = lit< tt;
      group_fits = h.2;
      goto_fits = c.goto_fits;
      vlan_fits = lit< tt;
      new_fits = lit< tt;
      ethertype_fits = h.0;
      address_fits = h.1.fits;
      high_aligned = h.1.high_is;
      low_aligned = h.1.low_is;
      stored = refl;
      no_new = λ x. refl;
      no_mac = λ x. refl;
      no_group = h.3;
      allowed = e;
    }
stored_admits terms f new (Bridging v hm m hg id) c h e =
    record {
      is_table = refl;
      cookie_fits = c.cookie_fits;
      mac_fits = h.1;
      priority_fits = c.priority_fits;
      hardtime_fits = c.hardtime_fits;
      idletime_fits = c.idletime_fits;
      port_fits = lit< tt;
      mask_fits = lit< tt;
      group_fits = h.2;
      goto_fits = c.goto_fits;
      vlan_fits = h.0;
      new_fits = lit< tt;
      ethertype_fits = lit< tt;
      address_fits = (none_aligned 32).fits;
      high_aligned = (none_aligned 32).high_is;
      low_aligned = (none_aligned 32).low_is;
      stored = refl;
      no_new = λ x. refl;
      no_mac = h.3;
      no_group = h.4;
      allowed = e;
    }

-- ---- Members

-- what collecting adds to the members before it
record Grown (before lows : List ℕ) : Type 0 where
  new : List ℕ
  lows_are : lows ≡ before ++ new
  fresh : Fresh before new
  fits : (j : ℕ) → get_or new j 0 < 2 ^ 16

low_cons : (x : ℕ) (l : List ℕ) → x < 2 ^ 16 → ((j : ℕ) → get_or l j 0 < 2 ^ 16) → (j : ℕ) → get_or (x ∷ l) j 0 < 2 ^ 16
low_cons x l h k zero = h
low_cons x l h k (suc j) = k j

grown_more : (before : List ℕ) (x : ℕ) (lows : List ℕ) → elem x before ≡ false → x < 2 ^ 16 → Grown (before ++ (x ∷ [])) lows → Grown before lows
grown_more before x lows e h g =
    record {
      new = x ∷ g.new;
      lows_are = g.lows_are ∙ append_assoc before (x ∷ []) g.new;
      fresh = (e, g.fresh);
      fits = low_cons x g.new h g.fits;
    }

-- a member is not among those before it
member_new : (vlan n : ℕ) (x : Tlv) (id : ℕ) (there : Bool) → member_right vlan n x id there ≡ true → there ≡ false
unfolding member_right
member_new vlan n x id there e =
    let form = ltb n max_ports && eqb x.kind (n + 1) && eqb x.size (rule_of (n + 1)).member_width in
    not-true there (and_right (form && eqb (group_type id) 0 && eqb (group_vlan id) vlan) (not there) e)

collected : (s : List ℕ) (vlan : ℕ) (before : List ℕ) (xs : List Tlv) → (collect s vlan before xs).right ≡ true → Grown before (collect s vlan before xs).lows
unfolding collect
collected s vlan before [] e = record { new = []; lows_are = sym (append-nil before); fresh = tt; fits = λ j. lit< tt }
collected s vlan before (x ∷ xs) e =
    let id = le_at 4 s x.start in
    let there = elem (group_low id) before in
    by_test (member_right vlan (length before) x id there)
    (λ p. rw p (grown_more before (group_low id) _ (member_new vlan (length before) x id there p) (low_below id)
    (collected s vlan (before ++ (group_low id ∷ [])) xs (simp p at e))))
    (λ p. not_both (sym (simp p at e)))

-- the members in GROUP_IDS, where decoding found them right
members_fresh : (h : ℕ) (s : List ℕ) (vlan : ℕ) → (members_in h s vlan).right ≡ true → Grown [] (members_in h s vlan).lows
unfolding members_in
members_fresh h s vlan e =
    by_test (well_formed h s) (λ p. rw p (collected s vlan [] (tlvs h s 0) (simp p at e))) (λ p. not_both (sym (simp p at e)))

-- ---- Groups

-- what any version admits, a device does: no version takes a type of group away (nor a table, which each flow has by its match)
older_id : (version id : ℕ) → group_id_allowed version id ≡ true → group_id_allowed current id ≡ true
unfolding group_id_allowed routes
older_id version id h = by_test (is_routing (group_type id)) (λ p. rw p) (λ p. rw p (simp p at h))

abbrev entry_of : ℕ → Bool → ℕ → List ℕ → GroupEntry
entry_of id pop count lows =
    record { id = id; pop_vlan = pop; member_count = count; vlan_id = 0; src_mac = 0; dst_mac = 0; members = pad lows }

-- type 0
single_admits : (ports id : ℕ) (pop : Bool) → id < 2 ^ 32 → group_id_allowed current id ≡ true → group_type id ≡ 0 → group_low id ≤ ports
    → GroupAdmitted ports (entry_of id pop 0 [])
single_admits ports id pop f a t l =
    record {
      id_fits = f;
      id_allowed = a;
      vlan_fits = lit< tt;
      src_fits = lit< tt;
      dst_fits = lit< tt;
      lows = [];
      members_are = refl;
      count_is = refl;
      lows_fit = λ j. lit< tt;
      fresh = tt;
      at_most = omega arith;
      single = λ e. (refl, l);
      routing = λ e. absurd (omega arith);
      many = λ n. absurd (n t);
      no_routing = λ n. (refl, refl, refl);
    }

-- type 2
routing_admits : (ports id vlan source target low : ℕ) → id < 2 ^ 32 → group_id_allowed current id ≡ true → group_type id ≡ 2 → vlan < 2 ^ 16
    → vlan_allowed vlan ≡ true → source < 2 ^ 48 → target < 2 ^ 48 → low < 2 ^ 16
    → GroupAdmitted ports
    (record { id = id; pop_vlan = false; member_count = 1; vlan_id = vlan; src_mac = source; dst_mac = target; members = pad (low ∷ []) })
unfolding elem
routing_admits ports id vlan source target low f a t v w x y l =
    record {
      id_fits = f;
      id_allowed = a;
      vlan_fits = v;
      src_fits = x;
      dst_fits = y;
      lows = low ∷ [];
      members_are = refl;
      count_is = refl;
      lows_fit = low_cons low [] l (λ j. lit< tt);
      fresh = (refl, tt);
      at_most = omega arith;
      single = λ e. absurd (omega arith);
      routing = λ e. (refl, w, refl);
      many = λ m n. absurd (n t);
      no_routing = λ n. absurd (n t);
    }

-- types 3 and 4
many_admits : (ports id count : ℕ) (lows : List ℕ) → id < 2 ^ 32 → group_id_allowed current id ≡ true → (group_type id ≡ 0 → ⊥) → (group_type id ≡ 2 → ⊥)
    → Grown [] lows → 1 ≤ count → count ≤ max_ports → length lows ≡ count → GroupAdmitted ports (entry_of id false count lows)
many_admits ports id count lows f a t r g lo hi n =
    record {
      id_fits = f;
      id_allowed = a;
      vlan_fits = lit< tt;
      src_fits = lit< tt;
      dst_fits = lit< tt;
      lows = lows;
      members_are = refl;
      count_is = sym n;
      lows_fit = rw g.lows_are g.fits;
      fresh = rw g.lows_are g.fresh;
      at_most = omega arith;
      single = λ e. absurd (t e);
      routing = λ e. absurd (r e);
      many = λ x y. (omega arith, refl);
      no_routing = λ x. (refl, refl, refl);
    }

group_admits : (terms : Terms) (s : List ℕ) (id : ℕ) → AreBytes s → id < 2 ^ 32 → group_allowed terms s id (members_of (header_of terms) s id) ≡ true
    → GroupAdmitted terms.ports (group_entry (group_of (header_of terms) s id) (pad (members_of (header_of terms) s id).lows))
unfolding group_entry group_of members_of group_allowed members_right lower_fits is_routing rule_of rule_in rows
group_admits terms s id bytes f e =
    let h = header_of terms in
    let a = older_id terms.version id (and_left (group_id_allowed terms.version id) _ e) in
    let own = and_right (group_id_allowed terms.version id) _ e in
    by_eq (group_type id) 0
    (λ t p.
    let x = simp p at own in
    let ranges = eqb (value h s 8) (group_low id) && leb (value h s 8) terms.ports in
    let b = and_left ranges (leb (value h s 43) 1) x in
    let same = eqb-true (value h s 8) (group_low id) (and_left _ (leb (value h s 8) terms.ports) b) in
    let low = leb-true (value h s 8) terms.ports (and_right (eqb (value h s 8) (group_low id)) _ b) in
    rw p (single_admits terms.ports id (eqb (value h s 43) 1) f a t (omega arith)))
    (λ t p. by_eq (group_type id) 2
    (λ r q.
    let v = swap16 (value h s 14) in
    let lower = value h s 11 in
    let x = simp (p, q) at own in
    let vlan = and_left (vlan_allowed v) (eqb (group_type lower) 0) (and_left _ (eqb (group_vlan lower) v) x) in
    rw (p, q)
    (routing_admits terms.ports id v (value h s 26) (value h s 24) (group_low lower) f a r (swap_below (value h s 14)) vlan (value_below h s 26 bytes) (value_below h s 24 bytes) (low_below lower)))
    (λ r q.
    let x = simp (p, q) at own in
    let c = members_in h (nest_in s (field h s 13)) (group_vlan id) in
    let n = value h s 12 in
    let same = eqb-true (length c.lows) n (and_right (c.right && leb 1 n && leb n max_ports) _ x) in
    let d = and_left (c.right && leb 1 n && leb n max_ports) (eqb (length c.lows) n) x in
    let hi = leb-true n max_ports (and_right (c.right && leb 1 n) _ d) in
    let g = and_left (c.right && leb 1 n) (leb n max_ports) d in
    rw (p, q)
    (many_admits terms.ports id n c.lows f a t r (members_fresh h (nest_in s (field h s 13)) (group_vlan id) (and_left c.right (leb 1 n) g))
    (leb-true 1 n (and_right c.right (leb 1 n) g)) hi same)))

-- ---- Payloads

-- what a command stores, with the members beside it, is admitted
abbrev Stores : Terms → List ℕ → Command → Type 0
Stores terms m (FlowAdd f) = FlowAdmitted terms.ports (flow_entry f)
Stores terms m (FlowMod f) = FlowAdmitted terms.ports (flow_entry f)
Stores terms m (FlowDel k) = Unit
Stores terms m (GroupAdd g) = GroupAdmitted terms.ports (group_entry g m)
Stores terms m (GroupMod g) = GroupAdmitted terms.ports (group_entry g m)
Stores terms m (GroupDel k) = Unit

abbrev StoresBy : Terms → List ℕ → Result Command Status → Type 0
StoresBy terms m (Carry c) = Stores terms m c
StoresBy terms m (Refused e) = Unit

abbrev Gives : Terms → Decoding → Type 0
Gives terms d = StoresBy terms d.members d.what

need_gives : (terms : Terms) (test : Bool) (e : Status) (d : Decoding) → (test ≡ true → Gives terms d) → Gives terms (need test e d)
unfolding need refused
need_gives terms true e d h = h refl
need_gives terms false e d h = tt

flow_gives : (terms : Terms) (s : List ℕ) (make : Flow → Command) → AreBytes s
    → ((f : Flow) (m : List ℕ) → FlowAdmitted terms.ports (flow_entry f) → Stores terms m (make f)) → Gives terms (flow_in terms s make)
unfolding flow_in carried flow_entry flow_of
flow_gives terms s make b stores =
    let h = header_of terms in
    let t = value h s 1 in
    let fields = fields_right h s (flow_user t (ethertype_in h s)) && pair_alone h s t in
    let allowed = match_allowed terms (value h s 9) (given h s 19) (match_of h s t) in
    need_gives terms (given h s 1) Einval _
    (λ p. need_gives terms (is_table terms.version t) Enotsup _
    (λ q. need_gives terms (fields && allowed) Einval _
    (λ r. stores (flow_of h s t) (pad [])
    (stored_admits terms (flow_of h s t) (given h s 19) (match_of h s t) (common_fits h s t b) (match_fits h s t b) (and_right fields allowed r)))))

group_gives : (terms : Terms) (s : List ℕ) (make : Group → Command) → AreBytes s
    → ((g : Group) (m : List ℕ) → GroupAdmitted terms.ports (group_entry g m) → Stores terms m (make g)) → Gives terms (group_in terms s make)
unfolding group_in carried rule_of rule_in rows
group_gives terms s make b stores =
    let h = header_of terms in
    let id = value h s 10 in
    let allowed = group_allowed terms s id (members_of h s id) in
    need_gives terms (fields_right h s (group_user id) && allowed) Einval _
    (λ p. stores (group_of h s id) (pad (members_of h s id).lows) (group_admits terms s id b (value_below h s 10 b) (and_right (fields_right h s (group_user id)) allowed p)))

flow_key_gives : (terms : Terms) (s : List ℕ) → Gives terms (flow_key_in terms s)
unfolding flow_key_in carried
flow_key_gives terms s = need_gives terms _ Einval _ (λ p. tt)

group_key_gives : (terms : Terms) (s : List ℕ) → Gives terms (group_key_in terms s)
unfolding group_key_in carried
group_key_gives terms s = need_gives terms _ Einval _ (λ p. tt)

either : (terms : Terms) (t : Bool) (a b : Decoding) → Gives terms a → Gives terms b → Gives terms (choose t a b)
either terms true a b h k = h
either terms false a b h k = k

command_gives : (terms : Terms) (c : ℕ) (s : List ℕ) → AreBytes s → Gives terms (command_in terms c s)
unfolding command_in
command_gives terms c s b =
    either terms (eqb c 3) _ _ (flow_gives terms s FlowAdd b (λ f m h. h))
    (either terms (eqb c 4) _ _ (flow_gives terms s FlowMod b (λ f m h. h))
    (either terms (eqb c 5) _ _ (flow_key_gives terms s)
    (either terms (eqb c 7) _ _ (group_gives terms s GroupAdd b (λ g m h. h))
    (either terms (eqb c 8) _ _ (group_gives terms s GroupMod b (λ g m h. h)) (group_key_gives terms s)))))

decode_gives : (terms : Terms) (s : List ℕ) → AreBytes s → Gives terms (decode terms s)
unfolding decode
decode_gives terms s b =
    need_gives terms _ Einval _
    (λ p. need_gives terms _ Enotsup _
    (λ q. need_gives terms _ Einval _ (λ r. command_gives terms _ _ (bytes_nest s (command_info (header_of terms) s) b))))

-- ---- Tables

-- a change of a table keeps what holds of each entry
module _ {A : Type 0} (key : A → ℕ) (P : A → Type 0) where
  pub each_insert : (e : A) (l : List A) → P e → Each P l → Each P (insert key e l)
  unfolding insert
  each_insert e [] p h = (p, tt)
  each_insert e (g ∷ gs) p h =
      by_test (ltb (key g) (key e)) (λ t. rw t (h.0, each_insert e gs p h.1)) (λ t. rw t (p, h))

  pub each_replace : (e : A) (l : List A) → P e → Each P l → Each P (replace key e l)
  unfolding replace
  each_replace e [] p h = tt
  each_replace e (g ∷ gs) p h =
      by_test (ltb (key g) (key e))
      (λ t. rw t (h.0, each_replace e gs p h.1))
      (λ t. by_test (eqb (key g) (key e)) (λ u. rw (t, u) (p, h.1)) (λ u. rw (t, u) h))

  pub each_remove : (k : ℕ) (l : List A) → Each P l → Each P (remove key k l)
  unfolding remove
  each_remove k [] h = tt
  each_remove k (g ∷ gs) h =
      by_test (ltb (key g) k)
      (λ t. rw t (h.0, each_remove k gs h.1))
      (λ t. by_test (eqb (key g) k) (λ u. rw (t, u) h.1) (λ u. rw (t, u) h))

effect_admits : (terms : Terms) (t : Tables) (c : Command) (m : List ℕ) → Admitted terms.ports t → Stores terms m c → Admitted terms.ports (command_effect t c m)
unfolding command_effect_in with_flows with_groups
effect_admits terms t (FlowAdd f) m a s =
    record { flows_are = each_insert cookie_of (FlowAdmitted terms.ports) (flow_entry f) t.flows s a.flows_are; groups_are = a.groups_are }
effect_admits terms t (FlowMod f) m a s =
    record { flows_are = each_replace cookie_of (FlowAdmitted terms.ports) (flow_entry f) t.flows s a.flows_are; groups_are = a.groups_are }
effect_admits terms t (FlowDel k) m a s =
    record { flows_are = each_remove cookie_of (FlowAdmitted terms.ports) k t.flows a.flows_are; groups_are = a.groups_are }
effect_admits terms t (GroupAdd g) m a s =
    record { flows_are = a.flows_are; groups_are = each_insert id_of (GroupAdmitted terms.ports) (group_entry g m) t.groups s a.groups_are }
effect_admits terms t (GroupMod g) m a s =
    record { flows_are = a.flows_are; groups_are = each_replace id_of (GroupAdmitted terms.ports) (group_entry g m) t.groups s a.groups_are }
effect_admits terms t (GroupDel k) m a s =
    record { flows_are = a.flows_are; groups_are = each_remove id_of (GroupAdmitted terms.ports) k t.groups a.groups_are }

decoded_admits : (terms : Terms) (t : Tables) (w : Result Command Status) (m : List ℕ) → Admitted terms.ports t → StoresBy terms m w → Admitted terms.ports (decoded_effect t w m)
unfolding decoded_effect_in
decoded_admits terms t (Carry c) m a s = effect_admits terms t c m a s
decoded_admits terms t (Refused e) m a s = a

pub empty_admits : (ports : ℕ) → Admitted ports empty_tables
unfolding empty_tables
empty_admits ports = record { flows_are = tt; groups_are = tt }

-- THE LAW: every payload of bytes keeps admitted tables
pub execute_admits : (terms : Terms) (payload : List ℕ) (t : Tables) → AreBytes payload → Admitted terms.ports t → Admitted terms.ports (execute terms payload t).tables
unfolding execute_in carry_out_in executed
execute_admits terms payload t b a =
    let d = decode terms payload in
    by_test (eqb (code (decoded_status t d.what)) 0)
    (λ p. rw p (decoded_admits terms t d.what d.members a (decode_gives terms payload b)))
    (λ p. rw p a)
