-- "TLV regions and commands": the table of fields, and a command's fields looked up by it.
use Rattle.std.specs.Prelude.{ℕ, zero, suc, ◌+◌, Bool, true, false, not, ◌&&◌, List, [], ◌∷◌, leb, eqb}
use Rattle.std.specs.Int.Bits.{bit_and}
use Rattle.rules.specs.Choose.{choose}
use Rattle.rules.specs.Limits.{max_ports, field_types}
use Rattle.rules.specs.Bytes.{le_at, part}
use Rattle.rules.specs.Region.{lookup}
use Rattle.rules.specs.declared.FieldRule.{FieldRule}
use Rattle.rules.specs.declared.Found.{Found}
use Rattle.rules.specs.declared.Found.TheVariants.{Absent, At, Fault}

-- Who uses a field, a bit each: flow add and mod by table, of table 30 by ETHERTYPE too; flow del; group add and mod of type 0, of type 2, and
-- of types 3 and 4; group del.
-- A field is listed for a command if it is "used by that command" with its table or group type; a del uses its key alone.
abbrev pub flow0 : ℕ
flow0 = 1

abbrev pub flow10 : ℕ
flow10 = 2

abbrev pub flow50 : ℕ
flow50 = 4

abbrev pub flow_del : ℕ
flow_del = 8

abbrev pub group0 : ℕ
group0 = 16

abbrev pub group_many : ℕ
group_many = 32

abbrev pub group_del : ℕ
group_del = 64

abbrev pub flow20 : ℕ
flow20 = 128

-- table 30 "takes exactly the address and mask of its ETHERTYPE"
abbrev pub flow30v4 : ℕ
flow30v4 = 256

abbrev pub flow30v6 : ℕ
flow30v6 = 512

abbrev pub group2 : ℕ
group2 = 1024

abbrev pub flow30 : ℕ
flow30 = flow30v4 + flow30v6

abbrev pub flow_any : ℕ
flow_any = flow0 + flow10 + flow20 + flow30 + flow50

abbrev pub group_any : ℕ
group_any = group0 + group2 + group_many + group_del

pub record Row : Type 0 where
  pub kind : ℕ
  pub width : ℕ
  pub uses : ℕ
  pub needs : ℕ

abbrev pub row : ℕ → ℕ → ℕ → ℕ → Row
row t w u n = record { kind = t; width = w; uses = u; needs = n }

-- The papers' table, with request 2026-03's types: type and width (0: nest); then who uses the field and who requires it, from the
-- paragraphs below the table and that request's sentences
unfoldable pub rows : List Row
rows =
    row 1 2 flow_any flow_any  -- TBL
    ∷ row 2 4 flow_any flow_any  -- PRIORITY
    ∷ row 3 4 flow_any 0  -- HARDTIME
    ∷ row 4 4 flow_any 0  -- IDLETIME
    ∷ row 5 8 (flow_any + flow_del) (flow_any + flow_del)  -- COOKIE
    ∷ row 6 4 (flow0 + flow10 + flow20) (flow0 + flow10 + flow20)  -- IN_PPORT
    ∷ row 7 4 flow0 flow0  -- IN_PPORT_MASK
    ∷ row 8 4 group0 group0  -- OUT_PPORT
    ∷ row 9 2 flow_any flow_any  -- GOTO_TBL
    ∷ row 10 4 (flow30 + flow50 + group_any) group_any  -- GROUP_ID
    ∷ row 11 4 group2 group2  -- GROUP_ID_LOWER
    ∷ row 12 2 group_many group_many  -- GROUP_COUNT
    ∷ row 13 0 group_many group_many  -- GROUP_IDS
    ∷ row 14 2 (flow10 + flow20 + flow50 + group2) (flow10 + flow20 + flow50 + group2)  -- VLAN_ID
    ∷ row 19 2 flow10 0  -- NEW_VLAN_ID
    ∷ row 23 2 (flow20 + flow30) (flow20 + flow30)  -- ETHERTYPE
    ∷ row 24 6 (flow20 + flow50 + group2) (flow20 + group2)  -- DST_MAC
    ∷ row 26 6 group2 group2  -- SRC_MAC
    ∷ row 36 4 flow30v4 flow30v4  -- DST_IP
    ∷ row 37 4 flow30v4 flow30v4  -- DST_IP_MASK
    ∷ row 38 16 flow30v6 flow30v6  -- DST_IPV6
    ∷ row 39 16 flow30v6 flow30v6  -- DST_IPV6_MASK
    ∷ row 43 1 group0 group0  -- POP_VLAN
    ∷ []

-- the width of a member inside GROUP_IDS, where the types are the members' places in the list ("whose k-th TLV"), 62 at most
unfoldable pub member_width : ℕ → ℕ
member_width t = choose (leb 1 t && leb t max_ports) 4 0

-- the row of a type; one that is not listed is used by nobody
unfoldable pub rule_in : ℕ → List Row → FieldRule
rule_in t [] = record { width = 0; uses = 0; needs = 0; member_width = member_width t }
rule_in t (r ∷ rs) =
    choose (eqb r.kind t) (record { width = r.width; uses = r.uses; needs = r.needs; member_width = member_width t }) (rule_in t rs)

unfoldable pub rule_of : ℕ → FieldRule
rule_of t = rule_in t rows

-- a field of CMD_INFO, looked up at its width; h as in Region
unfoldable pub field : ℕ → List ℕ → ℕ → Found
field h s t = lookup h s t (rule_of t).width

unfoldable pub is_at : Found → Bool
is_at Absent = false
is_at (At a n) = true
is_at Fault = false

-- nothing of a field stands there, at any width
unfoldable pub is_absent : Found → Bool
is_absent Absent = true
is_absent (At a n) = false
is_absent Fault = false

-- the number of a value of w bytes, 0 where there is none
unfoldable pub number_in : List ℕ → ℕ → Found → ℕ
number_in s w Absent = 0
number_in s w (At a n) = le_at w s a
number_in s w Fault = 0

-- the region in a value, empty where there is none
unfoldable pub nest_in : List ℕ → Found → List ℕ
nest_in s Absent = []
nest_in s (At a n) = part n s a
nest_in s Fault = []

-- a field stands there once at its width, and its number
unfoldable pub given : ℕ → List ℕ → ℕ → Bool
given h s t = is_at (field h s t)

unfoldable pub value : ℕ → List ℕ → ℕ → ℕ
value h s t = number_in s (rule_of t).width (field h s t)

-- what was found of a field is right for one who needs it or not
unfoldable pub right : Bool → Found → Bool
right needed Absent = not needed
right needed (At a n) = true
right needed Fault = false

-- a bit of a row's set of users
unfoldable pub has_user : ℕ → ℕ → Bool
has_user set who = not (eqb (bit_and set who) 0)

-- who uses a field finds it right; a field that it does not use is skipped
unfoldable pub field_right : ℕ → List ℕ → ℕ → ℕ → Bool
field_right h s who t = choose (has_user (rule_of t).uses who) (right (has_user (rule_of t).needs who) (field h s t)) true

unfoldable pub every_below : ℕ → (ℕ → Bool) → Bool
every_below zero f = true
every_below (suc n) f = f n && every_below n f

-- every field of the table is right for who reads the region: none "missing, repeated" or of another width
unfoldable pub fields_right : ℕ → List ℕ → ℕ → Bool
fields_right h s who = every_below field_types (field_right h s who)
