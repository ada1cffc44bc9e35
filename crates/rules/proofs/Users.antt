-- Who uses a field, told a second time: the field table tells it by field, the lists here by command, as the paragraphs of document 01
-- do. One list of users, one test, and what it says of every field.
-- Assumes nothing.
use Prim.Native.Nat.{ℕ, zero, suc, ◌<◌}
use mathlib.Core.Bool.{Bool, true, false, not, ◌&&◌}
use mathlib.Core.List.Memᴰ
use mathlib.Core.List.{List, [], ◌∷◌, Memᴰ}
use mathlib.Core.Logic.{⊎_elim}
use mathlib.Core.Path.{◌≡◌, refl}
use native.Mathlib.Nat.{not-suc-le-zero}
use native.Mathlib.Omega.{arith}
use Rattle.rules.specs.Fields.{rows, member_width, rule_in, rule_of, has_user, every_below, flow0, flow10, flow20, flow30v4, flow30v6, flow50, flow_del, group0, group2, group_many, group_del}
use Rattle.rules.specs.Members.{elem}
use Rattle.rules.proofs.Cases.{by_eq, and_left, and_right, not_both}

-- ---- The fields' types, by name

abbrev tbl : ℕ
tbl = 1

abbrev priority : ℕ
priority = 2

abbrev hardtime : ℕ
hardtime = 3

abbrev idletime : ℕ
idletime = 4

abbrev cookie : ℕ
cookie = 5

abbrev in_pport : ℕ
in_pport = 6

abbrev in_pport_mask : ℕ
in_pport_mask = 7

abbrev out_pport : ℕ
out_pport = 8

abbrev goto_tbl : ℕ
goto_tbl = 9

abbrev group_id : ℕ
group_id = 10

abbrev group_id_lower : ℕ
group_id_lower = 11

abbrev group_count : ℕ
group_count = 12

abbrev group_ids : ℕ
group_ids = 13

abbrev vlan_id : ℕ
vlan_id = 14

abbrev new_vlan_id : ℕ
new_vlan_id = 19

abbrev ethertype : ℕ
ethertype = 23

abbrev dst_mac : ℕ
dst_mac = 24

abbrev src_mac : ℕ
src_mac = 26

abbrev dst_ip : ℕ
dst_ip = 36

abbrev dst_ip_mask : ℕ
dst_ip_mask = 37

abbrev dst_ipv6 : ℕ
dst_ipv6 = 38

abbrev dst_ipv6_mask : ℕ
dst_ipv6_mask = 39

abbrev pop_vlan : ℕ
pop_vlan = 43

-- ---- The users

-- its bit in the field table; what it uses; what of that it requires
pub record User : Type 0 where
  pub who : ℕ
  pub uses : List ℕ
  pub requires : List ℕ

abbrev user : ℕ → List ℕ → List ℕ → User
user who uses requires = record { who = who; uses = uses; requires = requires }

-- What a flow add or mod uses and requires is said of all flows and then table by table: the two times may be left out, and so may table
-- 10's NEW_VLAN_ID, whose presence hangs on VLAN_ID and not on the table, and the "optional" fields of 30 and 50. A del "reads only its key".
-- Groups go by type.
unfoldable pub users : List User
users =
    user flow0
    (tbl ∷ priority ∷ cookie ∷ hardtime ∷ idletime ∷ in_pport ∷ in_pport_mask ∷ goto_tbl ∷ [])
    (tbl ∷ priority ∷ cookie ∷ in_pport ∷ in_pport_mask ∷ goto_tbl ∷ [])
    ∷ user flow10
    (tbl ∷ priority ∷ cookie ∷ hardtime ∷ idletime ∷ in_pport ∷ vlan_id ∷ goto_tbl ∷ new_vlan_id ∷ [])
    (tbl ∷ priority ∷ cookie ∷ in_pport ∷ vlan_id ∷ goto_tbl ∷ [])
    ∷ user flow20
    (tbl ∷ priority ∷ cookie ∷ hardtime ∷ idletime ∷ in_pport ∷ ethertype ∷ dst_mac ∷ vlan_id ∷ goto_tbl ∷ [])
    (tbl ∷ priority ∷ cookie ∷ in_pport ∷ ethertype ∷ dst_mac ∷ vlan_id ∷ goto_tbl ∷ [])
    ∷ user flow30v4
    (tbl ∷ priority ∷ cookie ∷ hardtime ∷ idletime ∷ ethertype ∷ dst_ip ∷ dst_ip_mask ∷ goto_tbl ∷ group_id ∷ [])
    (tbl ∷ priority ∷ cookie ∷ ethertype ∷ dst_ip ∷ dst_ip_mask ∷ goto_tbl ∷ [])
    ∷ user flow30v6
    (tbl ∷ priority ∷ cookie ∷ hardtime ∷ idletime ∷ ethertype ∷ dst_ipv6 ∷ dst_ipv6_mask ∷ goto_tbl ∷ group_id ∷ [])
    (tbl ∷ priority ∷ cookie ∷ ethertype ∷ dst_ipv6 ∷ dst_ipv6_mask ∷ goto_tbl ∷ [])
    ∷ user flow50
    (tbl ∷ priority ∷ cookie ∷ hardtime ∷ idletime ∷ vlan_id ∷ dst_mac ∷ goto_tbl ∷ group_id ∷ [])
    (tbl ∷ priority ∷ cookie ∷ vlan_id ∷ goto_tbl ∷ [])
    ∷ user flow_del (cookie ∷ []) (cookie ∷ [])
    ∷ user group0 (group_id ∷ out_pport ∷ pop_vlan ∷ []) (group_id ∷ out_pport ∷ pop_vlan ∷ [])
    ∷ user group2
    (group_id ∷ group_id_lower ∷ vlan_id ∷ src_mac ∷ dst_mac ∷ [])
    (group_id ∷ group_id_lower ∷ vlan_id ∷ src_mac ∷ dst_mac ∷ [])
    ∷ user group_many (group_id ∷ group_count ∷ group_ids ∷ []) (group_id ∷ group_count ∷ group_ids ∷ [])
    ∷ user group_del (group_id ∷ []) (group_id ∷ [])
    ∷ []

-- ---- The test

alike : Bool → Bool → Bool
alike true b = b
alike false b = not b

-- field table and list say the same of a type
agrees : User → ℕ → Bool
agrees u t =
    alike (has_user (rule_of t).uses u.who) (elem t u.uses) && alike (has_user (rule_of t).needs u.who) (elem t u.requires)

all_agree : List User → Bool
all_agree [] = true
all_agree (u ∷ us) = every_below 44 (agrees u) && all_agree us

users_agree : all_agree users ≡ true
unfolding users alike agrees all_agree elem every_below has_user rule_of rule_in rows member_width
users_agree = refl

-- ---- What it says

alike_same : (a b : Bool) → alike a b ≡ true → a ≡ b
unfolding alike
alike_same true true e = refl
alike_same true false e = not_both (cc)
alike_same false true e = not_both (cc)
alike_same false false e = refl

below : (n : ℕ) (f : ℕ → Bool) → every_below n f ≡ true → (t : ℕ) → t < n → f t ≡ true
unfolding every_below
below zero f e t h = absurd (not-suc-le-zero h)
below (suc n) f e t h =
    by_eq t n
    (λ q p. rw q (and_left (f n) (every_below n f) e))
    (λ q p. below n f (and_right (f n) (every_below n f) e) t (omega arith))

one_agrees : (us : List User) (u : User) → Memᴰ u us → all_agree us ≡ true → every_below 44 (agrees u) ≡ true
unfolding all_agree
one_agrees [] u m e = absurd (Memᴰ.not-nil m)
one_agrees (v ∷ vs) u m e =
    ⊎_elim
    (λ w. rw w (and_left (every_below 44 (agrees v)) (all_agree vs) e))
    (λ w. one_agrees vs u w (and_right (every_below 44 (agrees v)) (all_agree vs) e))
    (Memᴰ.cases_cons m)

-- THE LAW: of every type that `fields_right` looks at, the field table has a user exactly if its command lists the field
module _ (u : User) (m : Memᴰ u users) (t : ℕ) (h : t < 44) where
  both : agrees u t ≡ true
  both = below 44 (agrees u) (one_agrees users u m users_agree) t h

  pub uses_listed : has_user (rule_of t).uses u.who ≡ elem t u.uses
  unfolding agrees
  uses_listed = alike_same _ _ (and_left _ _ both)

  pub needs_listed : has_user (rule_of t).needs u.who ≡ elem t u.requires
  unfolding agrees
  needs_listed = alike_same _ _ (and_right (alike (has_user (rule_of t).uses u.who) (elem t u.uses)) _ both)
