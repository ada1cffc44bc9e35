-- TLVs by their bytes: eight in front, then the value. A number's value has its fill in one more unit of eight bytes; a region is
-- whole units (`region_whole`), so that one inside a TLV has no fill.
-- Assumes nothing.
use Prim.Native.Nat.{ℕ, ◌+◌, ◌-◌, ◌%◌, ◌≤◌}
use mathlib.Core.Path.{◌≡◌, refl, sym, ◌∙◌}
use mathlib.Core.List.{List, [], ◌∷◌, ◌++◌, append_assoc, append-nil}
use native.Mathlib.Omega.{arith}
use lib.ListN.{length, replicate, length-append, length-replicate, replicate-append-replicate}
use Rattle.rules.specs.Bytes.{bytes_of}
use Rattle.rules.specs.Region.{filled}
use Rattle.rules.specs.Encode.{Field, field_of, tlv_of, region_of}
use Rattle.rules.proofs.Bytes.{length_bytes_of}
use Rattle.encoding.specs.Writing.{lead, top}

pub length_lead : (kind size : ℕ) → length (lead kind size) ≡ 8
unfolding lead
length_lead kind size = simp (length-append, length_bytes_of)

-- eight bytes, the value, and its fill
tlv_is : (kind : ℕ) (bytes : List ℕ) → tlv_of (field_of kind bytes)
    ≡ lead kind (length bytes) ++ (bytes ++ replicate (filled (length bytes) - length bytes) 0)
unfolding tlv_of lead
tlv_is kind bytes = simp append_assoc

-- a value that needs no fill
tlv_full : (kind : ℕ) (bytes : List ℕ) → filled (length bytes) ≡ length bytes → tlv_of (field_of kind bytes) ≡ lead kind (length bytes) ++ bytes
tlv_full kind bytes e =
    let z : length bytes - length bytes ≡ 0 = omega arith in
    tlv_is kind bytes ∙ rw (e, z, append-nil)

-- ---- Numbers

-- one of no bytes, and one of up to eight
pub tlv_none : (kind v : ℕ) → tlv_of (field_of kind (bytes_of 0 v)) ≡ lead kind 0
unfolding bytes_of filled
tlv_none kind v = tlv_full kind [] refl ∙ append-nil _

pub tlv_number : (kind w v : ℕ) → 1 ≤ w → w ≤ 8 → tlv_of (field_of kind (bytes_of w v)) ≡ lead kind w ++ (bytes_of w v ++ replicate (8 - w) 0)
tlv_number kind w v l h =
    let e : filled w ≡ 8 = unfold filled in omega arith in
    tlv_is kind (bytes_of w v) ∙ rw (length_bytes_of w v, e)

pub length_number : (kind w v : ℕ) → 1 ≤ w → w ≤ 8 → length (tlv_of (field_of kind (bytes_of w v))) ≡ 16
length_number kind w v l h =
    rw (tlv_number kind w v l h) (simp (length-append, length_lead, length_bytes_of, length-replicate) (omega arith))

-- one of 16 bytes has no fill
pub tlv_wide : (kind v : ℕ) → tlv_of (field_of kind (bytes_of 16 v)) ≡ lead kind 16 ++ bytes_of 16 v
unfolding filled
tlv_wide kind v = rw (length_bytes_of 16 v) at (tlv_full kind (bytes_of 16 v) (rw (length_bytes_of 16 v)))

-- eight zeros, those that a value goes over and those of its fill
pub zeros_split : (w : ℕ) → w ≤ 8 → bytes_of 8 0 ≡ replicate w 0 ++ replicate (8 - w) 0
unfolding bytes_of
zeros_split w h =
    let e : w + (8 - w) ≡ 8 = omega arith in
    sym (replicate-append-replicate w (8 - w) 0 ∙ rw e)

-- ---- Regions

-- every TLV and so every region has whole units of eight bytes
tlv_whole : (f : Field) → length (tlv_of f) % 8 ≡ 0
tlv_whole f =
    rw (tlv_is f.kind f.bytes)
    (simp (length-append, length_lead, length-replicate) (unfold filled in omega arith))

region_whole : (fs : List Field) → length (region_of fs) % 8 ≡ 0
unfolding region_of
region_whole [] = refl
region_whole (f ∷ fs) = rw length-append (omega (arith, tlv_whole f, region_whole fs))

pub tlv_region : (kind : ℕ) (fs : List Field) → tlv_of (field_of kind (region_of fs)) ≡ lead kind (length (region_of fs)) ++ region_of fs
tlv_region kind fs = tlv_full kind (region_of fs) (unfold filled in omega (arith, region_whole fs))

pub length_top : (command end : ℕ) → length (top command end) ≡ 24
unfolding top
length_top command end =
    rw (length-append, length_number 1 2 command (omega arith) (omega arith), length_lead)
