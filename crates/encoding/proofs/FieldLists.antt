-- An entry's fields as the code comes by them: a flow's type by type, a group's by the few types that it has, the members by their
-- places. What is put of them, one after another, is their region.
-- Assumes nothing.
use Prim.Native.Nat.{ℕ, zero, suc, ◌+◌, ◌-◌, ◌*◌, ◌/◌, ◌^◌, ◌≤◌, ◌<◌, min}
use mathlib.Core.Path.{◌≡◌, refl, sym, ◌∙◌}
use mathlib.Core.Bool.{Bool, true, false, ◌&&◌, ◌||◌}
use mathlib.Core.List.{List, [], ◌∷◌, ◌++◌, map, append_assoc}
use native.Mathlib.Omega.{arith}
use native.Mathlib.Numerals.{add-one}
use lib.ListN.{length, take, drop, get_or, drop_of_length-le}
use lib.Seq.{take_all, drop-cons, get_or-take, length-take-le}
use lib.Dec.{leb, eqb}
use lib.Bits.{and_zero_l}
use borrow.Author.Tests.{leb-true, eq-eqb, ne_eqb}
use Rattle.rules.specs.Choose.{choose}
use Rattle.rules.specs.Bytes.{bytes_of, splice, swap16, swapped}
use Rattle.rules.specs.Address.{prefix_mask}
use Rattle.rules.specs.Fields.{Row, rule_of, rule_in, rows, member_width, has_user, group0, group2, group_many, group_del}
use Rattle.rules.specs.GroupId.{group_type, group_vlan, group_low, is_routing, member_id}
use Rattle.rules.specs.Encode.{Field, field_of, tlv_of, region_of, fields_from, fields_of, number_bytes, flow_has, flow_value, flow_bytes, flow_fields, member_fields, group_value, group_bytes, group_fields}
use Rattle.rules.specs.Decode.{group_user}
use Rattle.rules.specs.Undo.{flow_payload, group_payload}
use Rattle.rules.specs.declared.FlowEntry.{FlowEntry}
use Rattle.rules.specs.declared.GroupEntry.{GroupEntry}
use Rattle.rules.proofs.Cases.{by_test, by_eq, by_le, and_left, and_right, or_left, or_right, not_both}
use Rattle.addresses.proofs.Lengths.{mask_split}
use Rattle.encoding.specs.Writing.{longest, top, is_wide, flow_user_of, group_user_of, Puts}
use Rattle.encoding.proofs.Words.{upper_half, both_words, upper_mask}
use Rattle.encoding.proofs.Written.{puts_same, puts_none, last_put, then_put, payload_put}

-- ---- Flows

-- of one who reads them
module _ (who : ℕ) (e : FlowEntry) where
  -- the fields of the types from t on
  unfoldable pub flow_rest : ℕ → List Field
  flow_rest t = fields_from who (flow_has e) (flow_bytes e) (44 - t) t

  -- of one type there is a field, or none
  pub field_put : {r at : ℕ} {s u : List ℕ} {uses has : Bool} (t : ℕ) → uses ≡ has_user (rule_of t).uses who → has ≡ flow_has e t
      → uses && has ≡ true → Puts r u at (tlv_of (field_of t (flow_bytes e t))) s 24
      → Puts r u at (region_of (fields_from who (flow_has e) (flow_bytes e) 1 t)) s 24
  unfolding fields_from
  field_put t p q b w = rw (← p, ← q, b) (last_put (field_of t (flow_bytes e t)) w)

  pub field_none : {at : ℕ} {s : List ℕ} {uses has : Bool} (t : ℕ) → uses ≡ has_user (rule_of t).uses who → has ≡ flow_has e t → uses && has ≡ false
      → Puts at s at (region_of (fields_from who (flow_has e) (flow_bytes e) 1 t)) s 24
  unfolding fields_from region_of
  field_none t p q b = rw (← p, ← q, b) (puts_none 24)

  -- type by type from 1 on, since none is 0: all, one more, and none
  pub rest_all : flow_rest 1 ≡ flow_fields who e
  unfolding flow_rest flow_fields fields_of fields_from rule_of rule_in rows has_user
  rest_all = rw (and_zero_l who)

  rest_by : (n t : ℕ) → region_of (fields_from who (flow_has e) (flow_bytes e) (suc n) t)
      ≡ region_of (fields_from who (flow_has e) (flow_bytes e) 1 t) ++ region_of (fields_from who (flow_has e) (flow_bytes e) n (suc t))
  unfolding region_of fields_from
  rest_by n t =
      by_test (has_user (rule_of t).uses who && flow_has e t)
      (λ b. rw b (sym (append_assoc (tlv_of _) [] _)))
      (λ b. rw b)

  pub rest_next : (t : ℕ) → t < 44
      → region_of (flow_rest t) ≡ region_of (fields_from who (flow_has e) (flow_bytes e) 1 t) ++ region_of (flow_rest (t + 1))
  unfolding flow_rest
  rest_next t h = let n : 44 - t ≡ suc (44 - suc t) = omega arith in rw (add-one t, n) (rest_by (44 - suc t) t)

  pub rest_none : (t : ℕ) → 44 ≤ t → region_of (flow_rest t) ≡ []
  unfolding flow_rest region_of fields_from
  rest_none t h = let z : 44 - t ≡ 0 = omega arith in rw z

-- ---- Members

-- from one place to the next
next_by : (vlan i count : ℕ) (members : List ℕ) → i < count → count ≤ length members
    → member_fields vlan (i + 1) (drop i (take count members))
    ≡ field_of (i + 1) (bytes_of (rule_of (i + 1)).member_width (member_id vlan (get_or members i 0)))
    ∷ member_fields vlan (i + 1 + 1) (drop (i + 1) (take count members))
next_by vlan i count members h k =
    let l : length (take count members) ≡ count = length-take-le count members k in
    rw (drop-cons (take count members) i 0 (omega arith), get_or-take count members i 0 h, add-one i)
    (rw (add-one (suc i)) (unfold member_fields in refl))

pub member_next : (id i count w v : ℕ) (members : List ℕ) → i < count → count ≤ length members → w ≡ (rule_of (i + 1)).member_width
    → v ≡ member_id (group_vlan id) (get_or members i 0)
    → region_of (member_fields (group_vlan id) (i + 1) (drop i (take count members)))
    ≡ tlv_of (field_of (i + 1) (bytes_of w v)) ++ region_of (member_fields (group_vlan id) (i + 1 + 1) (drop (i + 1) (take count members)))
member_next id i count w v members h k p q = rw (next_by (group_vlan id) i count members h k, p, q) (unfold region_of in refl)

pub member_none : (vlan i k count : ℕ) (members : List ℕ) → count ≤ i → count ≤ length members
    → region_of (member_fields vlan k (drop i (take count members))) ≡ []
unfolding member_fields region_of
member_none vlan i k count members h l =
    let z : length (take count members) ≤ i = rw (length-take-le count members l) h in
    rw (drop_of_length-le (take count members) z)

-- a member's width does not depend on the rows; it is eight at most
member_width_in : (t : ℕ) (rs : List Row) → (rule_in t rs).member_width ≡ member_width t
unfolding rule_in
member_width_in t [] = refl
member_width_in t (r ∷ rs) = by_test (eqb r.kind t) (λ b. rw b) (λ b. rw b (member_width_in t rs))

pub member_narrow : (t : ℕ) → (rule_of t).member_width ≤ 8
unfolding rule_of member_width
member_narrow t = rw (member_width_in t rows) (by_test (leb 1 t && leb t 62) (λ b. rw b (omega arith)) (λ b. rw b (omega arith)))

-- a count past the places is all of them
pub take_count : (n count : ℕ) (members : List ℕ) → n ≡ min count 62 → length members ≡ 62 → take n members ≡ take count members
take_count n count members q e =
    by_le count 62
    (λ h p. let z : n ≡ count = omega arith in rw z)
    (λ h p. take_all n members (omega arith) ∙ sym (take_all count members (omega arith)))

-- ---- Groups

-- The types of the fields of one who uses them. These compute, where a list of fields is computed both with and without each.
module _ (who : ℕ) (has : ℕ → Bool) where
  abbrev keep : Bool → ℕ → List ℕ → List ℕ
  keep true t ts = t ∷ ts
  keep false t ts = ts

  unfoldable types_from : ℕ → ℕ → List ℕ
  types_from zero t = []
  types_from (suc n) t = keep (has_user (rule_of t).uses who && has t) t (types_from n (suc t))

  fields_by_types : (bytes : ℕ → List ℕ) (n t : ℕ) → fields_from who has bytes n t ≡ map (λ k. field_of k (bytes k)) (types_from n t)
  unfolding fields_from types_from
  fields_by_types bytes zero t = refl
  fields_by_types bytes (suc n) t =
      by_test (has_user (rule_of t).uses who && has t)
      (λ b. rw (b, fields_by_types bytes n (suc t)))
      (λ b. rw (b, fields_by_types bytes n (suc t)))

-- for groups the table has these
single_types : types_from group0 (λ t. true) 44 0 ≡ 8 ∷ 10 ∷ 43 ∷ []
unfolding types_from rule_of rule_in rows has_user
single_types = refl

routing_types : types_from group2 (λ t. true) 44 0 ≡ 10 ∷ 11 ∷ 14 ∷ 24 ∷ 26 ∷ []
unfolding types_from rule_of rule_in rows has_user
routing_types = refl

many_types : types_from group_many (λ t. true) 44 0 ≡ 10 ∷ 12 ∷ 13 ∷ []
unfolding types_from rule_of rule_in rows has_user
many_types = refl

key_types : types_from group_del (λ t. true) 44 0 ≡ 10 ∷ []
unfolding types_from rule_of rule_in rows has_user
key_types = refl

group_fields_lem : (who : ℕ) (e : GroupEntry) → group_fields who e ≡ map (λ k. field_of k (group_bytes e k)) (types_from who (λ t. true) 44 0)
unfolding group_fields fields_of
group_fields_lem who e = fields_by_types who (λ t. true) (group_bytes e) 44 0

single_fields : (e : GroupEntry) → group_fields group0 e
    ≡ field_of 8 (number_bytes 8 (group_low e.id))
    ∷ field_of 10 (number_bytes 10 e.id)
    ∷ field_of 43 (number_bytes 43 (choose e.pop_vlan 1 0))
    ∷ []
unfolding group_bytes group_value
single_fields e = group_fields_lem group0 e ∙ rw single_types

routing_fields : (e : GroupEntry) → group_fields group2 e
    ≡ field_of 10 (number_bytes 10 e.id)
    ∷ field_of 11 (number_bytes 11 (member_id e.vlan_id (get_or e.members 0 0)))
    ∷ field_of 14 (number_bytes 14 (swap16 e.vlan_id))
    ∷ field_of 24 (number_bytes 24 e.dst_mac)
    ∷ field_of 26 (number_bytes 26 e.src_mac)
    ∷ []
unfolding group_bytes group_value
routing_fields e = group_fields_lem group2 e ∙ rw routing_types

many_fields : (e : GroupEntry) → group_fields group_many e
    ≡ field_of 10 (number_bytes 10 e.id)
    ∷ field_of 12 (number_bytes 12 e.member_count)
    ∷ field_of 13 (region_of (member_fields (group_vlan e.id) 1 (take e.member_count e.members)))
    ∷ []
unfolding group_bytes group_value
many_fields e = group_fields_lem group_many e ∙ rw many_types

key_fields : (e : GroupEntry) → group_fields group_del e ≡ field_of 10 (number_bytes 10 e.id) ∷ []
unfolding group_bytes group_value
key_fields e = group_fields_lem group_del e ∙ rw key_types

-- what is put of a group of each kind
pub single_put : {a b r at : ℕ} {s t u w : List ℕ} (e : GroupEntry) {low pop : ℕ} → at ≤ length s → a ≤ length t → low ≡ group_low e.id
    → pop ≡ choose e.pop_vlan 1 0
    → Puts a t at (tlv_of (field_of 8 (number_bytes 8 low))) s 16
    → Puts b u a (tlv_of (field_of 10 (number_bytes 10 e.id))) t 16
    → Puts r w b (tlv_of (field_of 43 (number_bytes 43 pop))) u 16
    → Puts r w at (region_of (group_fields group0 e)) s 48
single_put e {low} {pop} h k p q x y z =
    rw (single_fields e, ← p, ← q) (then_put _ _ h x (then_put _ _ k y (last_put (field_of 43 (number_bytes 43 pop)) z)))

pub routing_put : {a b c d r at : ℕ} {s t u v w x : List ℕ} (e : GroupEntry) {lower vlan : ℕ}
    → at ≤ length s → a ≤ length t → b ≤ length u → c ≤ length v → lower ≡ member_id e.vlan_id (get_or e.members 0 0) → vlan ≡ swap16 e.vlan_id
    → Puts a t at (tlv_of (field_of 10 (number_bytes 10 e.id))) s 16
    → Puts b u a (tlv_of (field_of 11 (number_bytes 11 lower))) t 16
    → Puts c v b (tlv_of (field_of 14 (number_bytes 14 vlan))) u 16
    → Puts d w c (tlv_of (field_of 24 (number_bytes 24 e.dst_mac))) v 16
    → Puts r x d (tlv_of (field_of 26 (number_bytes 26 e.src_mac))) w 16
    → Puts r x at (region_of (group_fields group2 e)) s 80
routing_put e h k m n p q i l g f o =
    rw (routing_fields e, ← p, ← q) (then_put _ _ h i (then_put _ _ k l (then_put _ _ m g (then_put _ _ n f (last_put _ o)))))

pub many_put : {a b r at : ℕ} {s t u w : List ℕ} (e : GroupEntry) → at ≤ length s → a ≤ length t
    → Puts a t at (tlv_of (field_of 10 (number_bytes 10 e.id))) s 16
    → Puts b u a (tlv_of (field_of 12 (number_bytes 12 e.member_count))) t 16
    → Puts r w b (tlv_of (field_of 13 (region_of (member_fields (group_vlan e.id) 1 (take e.member_count e.members))))) u 1000
    → Puts r w at (region_of (group_fields group_many e)) s 1032
many_put e h k x y z = rw (many_fields e) (then_put _ _ h x (then_put _ _ k y (last_put _ z)))

pub key_put : {r at : ℕ} {s t : List ℕ} (e : GroupEntry) → Puts r t at (tlv_of (field_of 10 (number_bytes 10 e.id))) s 16
    → Puts r t at (region_of (group_fields group_del e)) s 1032
key_put e p = rw (key_fields e) (puts_same 1032 refl (omega arith) (last_put _ p))

-- which kind it is, by the command and the ID's type
pub user_del : (command id : ℕ) → command ≡ 9 → group_user_of command id ≡ group_del
unfolding group_user_of
user_del command id h = simp (eq-eqb command 9 h)

pub user_single : (command id : ℕ) {t : ℕ} → (command ≡ 9 → ⊥) → t ≡ group_type id → t ≡ 0 → group_user_of command id ≡ group0
unfolding group_user_of group_user
user_single command id h e z = simp (ne_eqb command 9 h, eq-eqb (group_type id) 0 (sym e ∙ z))

-- of one with members, whether or not it routes
module _ (command id : ℕ) {t : ℕ} {routes : Bool} (h : command ≡ 9 → ⊥) (e : t ≡ group_type id) (z : t ≡ 0 → ⊥) (q : routes ≡ is_routing t) where
  pub user_routing : routes ≡ true → group_user_of command id ≡ group2
  unfolding group_user_of group_user
  user_routing b = simp (ne_eqb command 9 h, ne_eqb (group_type id) 0 (λ p. z (e ∙ p)), ← e, ← q, b)

  pub user_many : routes ≡ false → group_user_of command id ≡ group_many
  unfolding group_user_of group_user
  user_many b = simp (ne_eqb command 9 h, ne_eqb (group_type id) 0 (λ p. z (e ∙ p)), ← e, ← q, b)

pub by_user : {r at x : ℕ} {s t : List ℕ} (command : ℕ) (e : GroupEntry) (who : ℕ) → group_user_of command e.id ≡ who → x ≤ 1032
    → Puts r t at (region_of (group_fields who e)) s x → Puts r t at (region_of (group_fields (group_user_of command e.id) e)) s 1032
by_user command e who q k p = rw q (puts_same 1032 refl k p)

-- ---- Widths

-- a row of 16 bytes has a type of those
abbrev fits_type : List Row → Bool
fits_type [] = true
fits_type (r ∷ rs) = (leb r.width 8 || is_wide r.kind) && fits_type rs

narrow_or : (a b : Bool) → a || b ≡ true → b ≡ false → a ≡ true
narrow_or true b e f = refl
narrow_or false b e f = not_both (sym e ∙ f)

plain_in : (t : ℕ) (rs : List Row) → fits_type rs ≡ true → is_wide t ≡ false → (rule_in t rs).width ≤ 8
unfolding rule_in
plain_in t [] c e = omega arith
plain_in t (r ∷ rs) c e =
    by_eq r.kind t
    (λ h p. rw p (leb-true r.width 8 (narrow_or (leb r.width 8) (is_wide r.kind) (and_left _ _ c) (rw h e))))
    (λ h p. rw p (plain_in t rs (and_right (leb r.width 8 || is_wide r.kind) (fits_type rs) c) e))

pub plain : (t : ℕ) → is_wide t ≡ false → (rule_of t).width ≤ 8
unfolding rule_of rows
plain t e = plain_in t rows refl e

-- neither of the two types
pub not_wide : (t : ℕ) → (t ≡ 38 → ⊥) → (t ≡ 39 → ⊥) → is_wide t ≡ false
not_wide t a b = simp (ne_eqb t 38 a, ne_eqb t 39 b)

-- ---- Values

-- types of no flow have 0, up to GROUP_ID and past it
pub no_number : (e : FlowEntry) (t : ℕ) → t < 10 → (t ≡ 1 → ⊥) → (t ≡ 2 → ⊥) → (t ≡ 3 → ⊥) → (t ≡ 4 → ⊥) → (t ≡ 5 → ⊥) → (t ≡ 6 → ⊥) → (t ≡ 7 → ⊥) → (t ≡ 9 → ⊥)
    → 0 ≡ flow_value e t
unfolding flow_value
no_number e t h a b c d f g i j =
    let past : (k : ℕ) → 10 ≤ k → eqb t k ≡ false = λ k l. ne_eqb t k (λ q. omega arith) in
    simp
    (ne_eqb t 1 a, ne_eqb t 2 b, ne_eqb t 3 c, ne_eqb t 4 d, ne_eqb t 5 f, ne_eqb t 6 g, ne_eqb t 7 i, ne_eqb t 9 j, past 10 (omega arith), past 14 (omega arith), past 19 (omega arith), past 23 (omega arith), past 24 (omega arith), past 36 (omega arith), past 37 (omega arith), past 38 (omega arith), past 39 (omega arith))

pub no_header : (e : FlowEntry) (t : ℕ) → 10 < t → is_wide t ≡ false → (t ≡ 14 → ⊥) → (t ≡ 19 → ⊥) → (t ≡ 23 → ⊥) → (t ≡ 24 → ⊥) → (t ≡ 36 → ⊥) → (t ≡ 37 → ⊥)
    → 0 ≡ flow_value e t
unfolding flow_value
no_header e t h w a b c d f g =
    let past : (k : ℕ) → k ≤ 10 → eqb t k ≡ false = λ k l. ne_eqb t k (λ q. omega arith) in
    simp
    (ne_eqb t 14 a, ne_eqb t 19 b, ne_eqb t 23 c, ne_eqb t 24 d, ne_eqb t 36 f, ne_eqb t 37 g, or_left (eqb t 38) (eqb t 39) w, or_right (eqb t 38) (eqb t 39) w, past 1 (omega arith), past 2 (omega arith), past 3 (omega arith), past 4 (omega arith), past 5 (omega arith), past 6 (omega arith), past 7 (omega arith), past 9 (omega arith), past 10 (omega arith))

-- an IPv4 address and its mask are upper halves of words
pub address_half : (e : FlowEntry) (t : ℕ) → t ≡ 36 → e.address_low < 2 ^ 64 → swapped 4 (e.address_high / 2 ^ 32) ≡ flow_value e t
unfolding flow_value
address_half e t h fits = rw (h, upper_half e.address_high e.address_low fits)

pub mask_half : (e : FlowEntry) (t : ℕ) → t ≡ 37 → swapped 4 (prefix_mask 64 e.prefix / 2 ^ 32) ≡ flow_value e t
unfolding flow_value
mask_half e t h = rw (h, upper_mask e.prefix)

-- those of IPv6 are two words
pub address_put : {r at : ℕ} {s u : List ℕ} (e : FlowEntry) (t : ℕ) → t ≡ 38
    → Puts r u at (tlv_of (field_of t (bytes_of 16 (swapped 16 (e.address_high * 2 ^ 64 + e.address_low))))) s 24
    → Puts r u at (tlv_of (field_of t (flow_bytes e t))) s 24
unfolding flow_bytes number_bytes flow_value rule_of rule_in rows
address_put e t h p = rw (h, both_words e.address_high e.address_low) (rw h at p)

pub mask_put : {r at high low : ℕ} {s u : List ℕ} (e : FlowEntry) (t : ℕ) → t ≡ 39 → high ≡ prefix_mask 64 e.prefix → low ≡ prefix_mask 64 (e.prefix - 64)
    → Puts r u at (tlv_of (field_of t (bytes_of 16 (swapped 16 (high * 2 ^ 64 + low))))) s 24
    → Puts r u at (tlv_of (field_of t (flow_bytes e t))) s 24
unfolding flow_bytes number_bytes flow_value rule_of rule_in rows
mask_put e t h a b p = rw (h, mask_split 64 64 e.prefix, ← a, ← b) (rw h at p)

-- any other is one
pub plain_put : {r at v : ℕ} {s u : List ℕ} (e : FlowEntry) (t : ℕ) → v ≡ flow_value e t
    → Puts r u at (tlv_of (field_of t (number_bytes t v))) s 16 → Puts r u at (tlv_of (field_of t (flow_bytes e t))) s 24
unfolding flow_bytes
plain_put e t q p = puts_same 24 (rw q) (omega arith) p

-- ---- Payloads

pub flow_put : {r : ℕ} {s t u : List ℕ} (command : ℕ) (e : FlowEntry) (who : ℕ) → longest ≤ length s → who ≡ flow_user_of command e.table e.ethertype
    → Puts r t 24 (region_of (flow_fields who e)) s 1032 → u ≡ splice 0 (top command r) t → Puts r u 0 (flow_payload command e) s longest
unfolding flow_payload flow_user_of
flow_put command e who h q p w = payload_put command _ longest (omega arith) (omega arith) (rw q at p) w

pub group_put : {r : ℕ} {s t u : List ℕ} (command : ℕ) (e : GroupEntry) → longest ≤ length s
    → Puts r t 24 (region_of (group_fields (group_user_of command e.id) e)) s 1032 → u ≡ splice 0 (top command r) t
    → Puts r u 0 (group_payload command e) s longest
unfolding group_payload group_user_of
group_put command e h p w = payload_put command _ longest (omega arith) (omega arith) p w
