-- "TLV regions": what a region holds, when it is well formed, and a type looked up in it. All is said of any number h of header bytes
-- that a TLV's length counts (Version: header_bytes), request 2026-02.
use Rattle.std.specs.Prelude.{ℕ, zero, suc, ◌+◌, ◌-◌, ◌*◌, ◌/◌, Bool, ◌&&◌, ◌||◌, List, [], ◌∷◌, length, leb, eqb}
use Rattle.rules.specs.Choose.{choose}
use Rattle.rules.specs.Bytes.{le_at}
use Rattle.rules.specs.declared.Tlv.{Tlv}
use Rattle.rules.specs.declared.Step.{Step}
use Rattle.rules.specs.declared.Step.TheVariants.{Next, End, Fault as NoTlv}
use Rattle.rules.specs.declared.Found.{Found}
use Rattle.rules.specs.declared.Found.TheVariants.{Absent, At, Fault}

-- the length of a TLV's value, from its length field: the h header bytes do not belong to it
unfoldable pub value_size : ℕ → ℕ → ℕ
value_size h field = field - h

-- its counterpart: the length field of a TLV whose value has n bytes, "header bytes plus the value"
unfoldable pub length_field : ℕ → ℕ → ℕ
length_field h n = h + n

-- a length with its fill: "a multiple of 8"
unfoldable pub filled : ℕ → ℕ
filled n = (n + 7) / 8 * 8

-- "A TLV is": 4 bytes of type, 2 of length and 2 that are not read, then the value
unfoldable pub tlv_at : ℕ → List ℕ → ℕ → Tlv
tlv_at h s i = record { kind = le_at 4 s i; start = i + 8; size = value_size h (le_at 2 s (i + 4)) }

-- where a TLV ends, with its fill
unfoldable pub tlv_end : Tlv → ℕ
tlv_end x = x.start + filled x.size

-- a TLV stands at a position: its length is not "under" the header bytes that it counts, and the region has all of it, fill included
unfoldable pub is_tlv : ℕ → List ℕ → ℕ → Bool
is_tlv h s i = leb h (le_at 2 s (i + 4)) && leb (tlv_end (tlv_at h s i)) (length s)

-- what stands at a position: a TLV, the region's end, or a fault
unfoldable pub step_at : ℕ → List ℕ → ℕ → Step
step_at h s i = choose (is_tlv h s i) (Next (tlv_at h s i)) (choose (eqb i (length s)) End NoTlv)

-- where the next step is made, after one at a position
unfoldable pub after : ℕ → Step → ℕ
after i (Next x) = tlv_end x
after i End = i
after i NoTlv = i

-- a whole TLV and then those from its end on, or none
abbrev pub onward : (ℕ → List Tlv) → Step → List Tlv
onward rest (Next x) = x ∷ rest (tlv_end x)
onward rest End = []
onward rest NoTlv = []

unfoldable pub walk : ℕ → ℕ → List ℕ → ℕ → List Tlv
walk h zero s i = []
walk h (suc n) s i = onward (walk h n s) (step_at h s i)

-- The whole TLVs from a position on. A TLV has 8 bytes or more, so the region's length is steps enough, and
-- `tlvs h s i ≡ onward (tlvs h s) (step_at h s i)` holds everywhere (`tlvs_unfold` in proofs/Region.antt).
unfoldable pub tlvs : ℕ → List ℕ → ℕ → List Tlv
tlvs h s i = walk h (length s) s i

-- where the last of them ends
unfoldable pub end_of : ℕ → List Tlv → ℕ
end_of i [] = i
end_of i (x ∷ xs) = end_of (tlv_end x) xs

-- TLVs fill the region, no byte is left over: "cover it exactly"
unfoldable pub well_formed : ℕ → List ℕ → Bool
well_formed h s = eqb (end_of 0 (tlvs h s 0)) (length s)

-- a value's length is right for a width; width 0 is a nest, which has any length
unfoldable pub fits_width : ℕ → ℕ → Bool
fits_width width size = eqb width 0 || eqb size width

-- what one more TLV of the type makes of what was found: a fault if it "comes twice" or its width is not the listed one
unfoldable pub meet : ℕ → Tlv → Found → Found
meet width x Absent = choose (fits_width width x.size) (At x.start x.size) Fault
meet width x (At a n) = Fault
meet width x Fault = Fault

-- what a list of TLVs makes of what was found of a type; those of other types count for nothing ("skipped")
unfoldable pub scan : ℕ → ℕ → Found → List Tlv → Found
scan kind width f [] = f
scan kind width f (x ∷ xs) = scan kind width (choose (eqb x.kind kind) (meet width x f) f) xs

-- what a region holds of a type
unfoldable pub lookup : ℕ → List ℕ → ℕ → ℕ → Found
lookup h s kind width = scan kind width Absent (tlvs h s 0)
