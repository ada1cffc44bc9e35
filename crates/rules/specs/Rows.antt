-- What the places of the tables hold: a flow is a row of 22 words of 32 bits, a group a row of 8 words and, in another array, a row of
-- its 62 members. Every row means an entry, whatever its words: a field of 16 bits is its word's low half, one of 8 its low byte, a flag is a
-- word that is not 0.
use Rattle.std.specs.Prelude.{ℕ, ◌+◌, ◌*◌, ◌%◌, Bool, not, List, [], ◌∷◌, eqb, get_or}
use Rattle.rules.specs.declared.FlowEntry.{FlowEntry}
use Rattle.rules.specs.declared.GroupEntry.{GroupEntry}

-- a number of 64 bits in two words, the lower first
abbrev pub joined : ℕ → ℕ → ℕ
joined low high = low + high * 4294967296

abbrev pub flag_in : ℕ → Bool
flag_in w = not (eqb w 0)

-- ---- Flows

abbrev pub cookie_in : List ℕ → ℕ
cookie_in r = joined (get_or r 0 0) (get_or r 1 0)

unfoldable pub entry_in : List ℕ → FlowEntry
entry_in r =
    record {
      cookie = cookie_in r;
      dst_mac = joined (get_or r 2 0) (get_or r 3 0);
      address_high = joined (get_or r 18 0) (get_or r 19 0);
      address_low = joined (get_or r 20 0) (get_or r 21 0);
      priority = get_or r 4 0;
      hardtime = get_or r 5 0;
      idletime = get_or r 6 0;
      in_pport = get_or r 7 0;
      in_pport_mask = get_or r 8 0;
      group_id = get_or r 9 0;
      table = get_or r 10 0 % 65536;
      goto_tbl = get_or r 11 0 % 65536;
      vlan_id = get_or r 12 0 % 65536;
      new_vlan_id = get_or r 13 0 % 65536;
      ethertype = get_or r 16 0 % 65536;
      prefix = get_or r 17 0 % 256;
      has_mac = flag_in (get_or r 14 0);
      has_group = flag_in (get_or r 15 0);
    }

-- ---- Groups

-- the two rows of a group: in the head ID, POP_VLAN, number of members, VLAN and the two MACs; the members
abbrev pub GroupRows : Type 0
GroupRows = List ℕ × List ℕ

abbrev pub id_in : List ℕ → ℕ
id_in h = get_or h 0 0

unfoldable pub group_in : GroupRows → GroupEntry
group_in r =
    record {
      id = id_in r.0;
      pop_vlan = flag_in (get_or r.0 1 0);
      member_count = get_or r.0 2 0 % 256;
      vlan_id = get_or r.0 3 0 % 65536;
      src_mac = joined (get_or r.0 4 0) (get_or r.0 5 0);
      dst_mac = joined (get_or r.0 6 0) (get_or r.0 7 0);
      members = r.1;
    }

-- two arrays side by side
abbrev pub beside : List (List ℕ) → List (List ℕ) → List GroupRows
beside [] ms = []
beside (h ∷ hs) [] = []
beside (h ∷ hs) (m ∷ ms) = (h, m) ∷ beside hs ms
