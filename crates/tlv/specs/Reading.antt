-- A region read one TLV at a time: each whole TLV, and a fault last where they do not cover the region. h: as in the rules' Region.
use Rattle.std.specs.Prelude.{ℕ, ◌+◌, ◌-◌, Bool, List, [], ◌∷◌, length, eqb, nat_lt, Result, Ok, Err, if◌then◌else◌}
use Rattle.rules.specs.Choose.{choose}
use Rattle.rules.specs.Bytes.{le_at}
use Rattle.rules.specs.Region.{filled, tlvs, end_of}
use Rattle.rules.specs.declared.Tlv.{Tlv}
use Rattle.tlv.specs.declared.reader.Malformed.{Malformed}

abbrev pub Read : Type 0
Read = Result Tlv Malformed

abbrev pub fault : Read
fault = Err (record {})

-- the TLV at a position, if it stands there whole: its header, a length that counts that, and the value with its fill
abbrev pub front : ℕ → List ℕ → ℕ → Read
front h s at =
    if nat_lt (length s) 8 then fault
    else if nat_lt (length s - 8) at then fault
    else if nat_lt (le_at 2 s (at + 4)) h then fault
    else if nat_lt (length s - 8 - at) (filled (le_at 2 s (at + 4) - h)) then fault
    else Ok (record { kind = le_at 4 s at; start = at + 8; size = le_at 2 s (at + 4) - h })

-- TLVs that cover what they are read from, or do not
abbrev pub reads : Bool → List Tlv → List Read
reads covers [] = choose covers [] (fault ∷ [])
reads covers (x ∷ xs) = Ok x ∷ reads covers xs

-- what is still to be read from a position on
unfoldable pub left : ℕ → List ℕ → ℕ → List Read
left h s at = reads (eqb (end_of at (tlvs h s at)) (length s)) (tlvs h s at)
