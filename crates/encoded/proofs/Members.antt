-- The members of a group read back from GROUP_IDS: by induction over them, the TLVs that were read standing before the rest.
-- Assumes nothing.
use Prim.Native.Nat.{ℕ, suc, ◌+◌, ◌*◌, ◌≤◌, ◌<◌}
use mathlib.Core.Bool.{Bool, true, false}
use mathlib.Core.Path.{◌≡◌, refl, sym, ap, ◌∙◌}
use mathlib.Core.List.{List, [], ◌∷◌, ◌++◌, append-nil, append_assoc}
use native.Mathlib.Omega.{arith}
use lib.ListN.{length, length-append, get_or}
use lib.Seq.{append_snoc}
use lib.Dec.{eqb}
use borrow.Author.Tests.{lt-ltb, le-leb, eq-eqb}
use Rattle.rules.specs.Choose.{choose}
use Rattle.rules.specs.Bytes.{le_at, bytes_of}
use Rattle.rules.specs.Region.{filled}
use Rattle.rules.specs.Fields.{Row, rows, member_width, rule_in, rule_of}
use Rattle.rules.specs.GroupId.{member_id}
use Rattle.rules.specs.Members.{elem, member_right, collect, members_in}
use Rattle.rules.specs.Encode.{Field, field_of, tlv_of, region_of, member_fields}
use Rattle.rules.specs.declared.Tlv.{Tlv}
use Rattle.rules.specs.declared.FieldRule.{FieldRule}
use Rattle.rules.proofs.Bytes.{length_bytes_of}
use Rattle.rules.proofs.GroupId.{member_type, member_vlan, member_low}
use Rattle.encoded.specs.Placed.{own, placed, Encodable}
use Rattle.encoded.specs.Admitted.{Fresh}
use Rattle.encoded.proofs.Region.{number_front, length_fits, length_tlv, bytes_there, grown, tlvs_region, encoded_whole}

-- ---- The width of a member

-- every row has the width of its type
either : (b : Bool) (x y : FieldRule) (n : ℕ) → x.member_width ≡ n → y.member_width ≡ n → (choose b x y).member_width ≡ n
either true x y n h k = h
either false x y n h k = k

width_in : (t : ℕ) (rs : List Row) → (rule_in t rs).member_width ≡ member_width t
unfolding rule_in
width_in t [] = refl
width_in t (r ∷ rs) = either (eqb r.kind t) _ (rule_in t rs) (member_width t) refl (width_in t rs)

pub member_width_lem : (k : ℕ) → 1 ≤ k → k ≤ 62 → (rule_of k).member_width ≡ 4
unfolding rule_of member_width
member_width_lem k a b = width_in k rows ∙ simp (le-leb 1 k a, le-leb k 62 b)

-- ---- One member

member_size : (vlan k low : ℕ) → 1 ≤ k → k ≤ 62 → length (bytes_of (rule_of k).member_width (member_id vlan low)) ≡ 4
member_size vlan k low a b = length_bytes_of (rule_of k).member_width (member_id vlan low) ∙ member_width_lem k a b

-- its ID is read whole
id_read : (pre : List ℕ) (f : Field) (rest : List ℕ) (vlan low : ℕ) → vlan < 4096 → low < 65536 → f.bytes ≡ bytes_of 4 (member_id vlan low)
    → le_at 4 (pre ++ (tlv_of f ++ rest)) (length pre + 8) ≡ member_id vlan low
unfolding le_at member_id
id_read pre f rest vlan low v l e = rw (bytes_there pre f rest, e) (number_front 4 (member_id vlan low) _ (omega arith))

-- ---- All members

module _ (vlan : ℕ) (v : vlan < 4096) where
  -- the first of them, and then the rest
  first : (s before : List ℕ) (x : Tlv) (xs : List Tlv) (low : ℕ)
      → low < 65536 → length before < 62 → elem low before ≡ false
      → x.kind ≡ length before + 1 → x.size ≡ 4 → le_at 4 s x.start ≡ member_id vlan low
      → collect s vlan before (x ∷ xs) ≡ collect s vlan (before ++ (low ∷ [])) xs
  unfolding collect member_right
  first s before x xs low l n d k z e =
      rw (e, member_low vlan low v l, member_type vlan low v l, member_vlan vlan low v l, d, k, z, member_width_lem (length before + 1) (omega arith) (omega arith), lt-ltb (length before) 62 n, eq-eqb (length before + 1) (length before + 1) refl, eq-eqb vlan vlan refl)

  none_left : (s before : List ℕ) → collect s vlan before [] ≡ record { right = true; lows = before ++ [] }
  unfolding collect
  none_left s before = rw append-nil

  -- a list that stands where its prefix ends
  collected : (s pre before lows : List ℕ) (i k : ℕ)
      → s ≡ pre ++ region_of (member_fields vlan k lows) → i ≡ length pre → k ≡ length before + 1 → length before + length lows ≤ 62
      → ((j : ℕ) → get_or lows j 0 < 65536) → Fresh before lows
      → collect s vlan before (placed i (member_fields vlan k lows)) ≡ record { right = true; lows = before ++ lows }
  unfolding region_of member_fields placed
  collected s pre before [] i k at pos nth fits small fresh = none_left s before
  collected s pre before (low ∷ lows) i k at pos nth fits small fresh =
      let f : Field = field_of k (bytes_of (rule_of k).member_width (member_id vlan low)) in
      let w : (rule_of k).member_width ≡ 4 = member_width_lem k (omega arith) (omega arith) in
      let z : length f.bytes ≡ 4 = member_size vlan k low (omega arith) (omega arith) in
      let e : le_at 4 s (i + 8) ≡ member_id vlan low =
      rw (at, pos) (id_read pre f (region_of (member_fields vlan (suc k) lows)) vlan low v (small 0) (rw w)) in
      first s before _ _ low (small 0) (omega arith) fresh.0 nth z e
      ∙ (collected s (pre ++ tlv_of f) (before ++ (low ∷ [])) lows (i + 8 + filled (length f.bytes)) (suc k)
      (at ∙ sym (append_assoc pre (tlv_of f) _))
      (rw pos (sym (grown pre f)))
      (omega (arith, length-append before (low ∷ [])))
      (omega (arith, length-append before (low ∷ [])))
      (λ j. small (suc j))
      fresh.1
      ∙ ap (λ (l : List ℕ). record { right = true; lows = l }) (append_snoc before low lows))

-- types and lengths that their bytes hold, and 16 bytes for each
module _ (vlan : ℕ) where
  pub members_encodable : (k : ℕ) (lows : List ℕ) → 1 ≤ k → k + length lows ≤ 63 → Encodable (member_fields vlan k lows)
  unfolding member_fields
  members_encodable k [] a h = tt
  members_encodable k (low ∷ lows) a h =
      (omega arith, length_fits _ (omega (arith, member_size vlan k low a (omega arith))), members_encodable (suc k) lows (omega arith) (omega arith))

  pub members_length : (k : ℕ) (lows : List ℕ) → 1 ≤ k → k + length lows ≤ 63 → length (region_of (member_fields vlan k lows)) ≡ 16 * length lows
  unfolding member_fields region_of filled
  members_length k [] a h = refl
  members_length k (low ∷ lows) a h =
      let f : Field = field_of k (bytes_of (rule_of k).member_width (member_id vlan low)) in
      let z : length f.bytes ≡ 4 = member_size vlan k low a (omega arith) in
      omega
      (arith, length-append (tlv_of f) (region_of (member_fields vlan (suc k) lows)), length_tlv f, z, members_length (suc k) lows (omega arith) (omega arith))

-- THE MEMBERS READ BACK
pub members_read : (vlan : ℕ) (lows : List ℕ) → vlan < 4096 → length lows ≤ 62 → ((j : ℕ) → get_or lows j 0 < 65536) → Fresh [] lows
    → members_in own (region_of (member_fields vlan 1 lows)) vlan ≡ record { right = true; lows = lows }
unfolding members_in
members_read vlan lows v fits small fresh =
    let c : Encodable (member_fields vlan 1 lows) = members_encodable vlan 1 lows (omega arith) (omega arith) in
    rw (encoded_whole (member_fields vlan 1 lows) c, tlvs_region (member_fields vlan 1 lows) c)
    (collected vlan v _ [] [] lows 0 1 refl refl refl (omega arith) small fresh)
