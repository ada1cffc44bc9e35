-- What writing a payload promises.
use Rattle.std.specs.Prelude.{ℕ, ◌+◌, ◌-◌, ◌≤◌, ◌≡◌, List, ◌++◌, length, Bool, ◌||◌, eqb}
use Rattle.rules.specs.Choose.{choose}
use Rattle.rules.specs.Bytes.{bytes_of, splice}
use Rattle.rules.specs.Version.{current, header_bytes}
use Rattle.rules.specs.Region.{length_field}
use Rattle.rules.specs.Fields.{flow_del, group_del}
use Rattle.rules.specs.Decode.{flow_user, group_user}
use Rattle.rules.specs.Encode.{field_of, tlv_of}

-- bytes of a payload, at most
abbrev pub longest : ℕ
longest = 1056

-- bytes over a buffer from a position on, and where they end; there are no more than `most`
pub record Puts (r : ℕ) (after : List ℕ) (at : ℕ) (bytes before : List ℕ) (most : ℕ) : Type 0 where
  pub buffer_is : after ≡ splice at bytes before
  pub end_is : r ≡ at + length bytes
  pub at_most : r ≤ at + most

-- a TLV's first eight bytes
unfoldable pub lead : ℕ → ℕ → List ℕ
lead kind size = bytes_of 4 kind ++ (bytes_of 2 (length_field (header_bytes current) size) ++ bytes_of 2 0)

-- the bytes in front of the region of a CMD_INFO that ends at a position
unfoldable pub top : ℕ → ℕ → List ℕ
top command end = tlv_of (field_of 1 (bytes_of 2 command)) ++ lead 2 (end - 24)

-- the types whose values have 16 bytes, DST_IPV6 and its mask
abbrev pub is_wide : ℕ → Bool
is_wide t = eqb t 38 || eqb t 39

-- who reads the fields of a command
unfoldable pub flow_user_of : ℕ → ℕ → ℕ → ℕ
flow_user_of command table ethertype = choose (eqb command 5) flow_del (flow_user table ethertype)

unfoldable pub group_user_of : ℕ → ℕ → ℕ
group_user_of command id = choose (eqb command 9) group_del (group_user id)
