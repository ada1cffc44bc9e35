-- Where the TLVs of an encoded region stand.
use Rattle.std.specs.Prelude.{ℕ, ◌+◌, ◌<◌, ◌^◌, List, [], ◌∷◌, length}
use Rattle.rules.specs.Version.{current, header_bytes}
use Rattle.rules.specs.Region.{length_field, filled}
use Rattle.rules.specs.Encode.{Field}
use Rattle.rules.specs.declared.Tlv.{Tlv}

-- how many header bytes a length counts in what is encoded: "the device's own length meaning"
abbrev pub own : ℕ
own = header_bytes current

unfoldable pub placed : ℕ → List Field → List Tlv
placed i [] = []
placed i (f ∷ fs) = record { kind = f.kind; start = i + 8; size = length f.bytes } ∷ placed (i + 8 + filled (length f.bytes)) fs

-- types and lengths that their bytes hold
abbrev pub Encodable : List Field → Type 0
Encodable [] = Unit
Encodable (f ∷ fs) = (f.kind < 2 ^ 32) × (length_field own (length f.bytes) < 2 ^ 16) × Encodable fs
