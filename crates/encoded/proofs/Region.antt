-- Encoded regions, read in the device's own length meaning, in which they are written: the walk meets the fields where they were put, one
-- after the other, and a look-up finds the bytes of its type.
-- Assumes nothing.
use Prim.Native.Nat.{ℕ, zero, suc, ◌+◌, ◌-◌, ◌*◌, ◌/◌, ◌≤◌, ◌<◌, ◌^◌}
use mathlib.Core.Bool.{Bool, true, false, not, ◌&&◌, ◌||◌}
use mathlib.Core.Option.{Option, none, some}
use mathlib.Core.Path.{◌≡◌, refl, sym, ap, ◌∙◌}
use mathlib.Core.List.{List, [], ◌∷◌, ◌++◌, append_assoc, append-nil}
use native.Mathlib.Omega.{arith}
use native.Mathlib.Nat.{mod-eq_of_lt}
use lib.ListN.{length, drop, replicate, length-append, length-replicate}
use lib.Seq.{take-append_seam, drop-append_seam, drop-append-add, drop_at}
use borrow.Author.Tests.{eqb-true, eq-eqb, ne_eqb, lt-ltb, le-ltb}
use Rattle.rules.specs.Choose.{choose}
use Rattle.rules.specs.Limits.{field_types, max_payload}
use Rattle.rules.specs.Bytes.{le, le_at, bytes_of, part}
use Rattle.rules.specs.Version.{header_counted, header_bytes}
use Rattle.rules.specs.Region.{length_field, filled, tlv_at, tlv_end, tlvs, end_of, well_formed, fits_width, meet, scan, lookup}
use Rattle.rules.specs.Keyed.{find, Above, Rising}
use Rattle.rules.specs.Fields.{rule_of, has_user, field, is_at, number_in, nest_in, given, value, right, field_right, every_below, fields_right}
use Rattle.rules.specs.Registers.{current_terms}
use Rattle.rules.specs.Encode.{Field, field_of, tlv_of, region_of, payload_of, fields_from, fields_of}
use Rattle.rules.specs.Decode.{need, is_command, command_in, command_type, command_info, decode}
use Rattle.rules.specs.declared.Tlv.{Tlv}
use Rattle.rules.specs.declared.Found.{Found}
use Rattle.rules.specs.declared.Found.TheVariants.{Absent, At}
use Rattle.rules.specs.declared.Step.TheVariants.{Next}
use Rattle.rules.proofs.Cases.{by_test, by_eq, by_order, not_both, gt_eqb, and_left, and_right}
use Rattle.rules.proofs.Keyed.{is_found, find_below, above_less}
use Rattle.rules.proofs.Bytes.{le_front, le_bytes_of, length_bytes_of}
use Rattle.rules.proofs.Region.{filled_covers, size_back, is_tlv_lem, step_next, step_end, tlvs_next, tlvs_end}
use Rattle.encoded.specs.Placed.{own, placed, Encodable}

-- ---- One TLV

-- a number that fits is read from its bytes, whatever follows them
pub number_front : (n v : ℕ) (t : List ℕ) → v < 256 ^ n → le n (bytes_of n v ++ t) ≡ v
number_front n v t h = le_front n (bytes_of n v) t (length_bytes_of n v) ∙ (le_bytes_of n v ∙ mod-eq_of_lt h)

-- a length field holds every length that occurs in a payload
pub length_fits : (n : ℕ) → n ≤ max_payload → length_field own n < 2 ^ 16
unfolding length_field header_bytes header_counted
length_fits n h = omega arith

-- zeros up to a multiple of 8
unfoldable pub fill : Field → List ℕ
fill f = replicate (filled (length f.bytes) - length f.bytes) 0

-- what stands behind its length field
behind : Field → List ℕ → List ℕ
behind f rest = bytes_of 2 0 ++ (f.bytes ++ (fill f ++ rest))

tlv_parts : (f : Field) (rest : List ℕ)
    → tlv_of f ++ rest ≡ bytes_of 4 f.kind ++ (bytes_of 2 (length_field own (length f.bytes)) ++ behind f rest)
unfolding tlv_of behind fill
tlv_parts f rest = rw (append_assoc, append_assoc, append_assoc, append_assoc)

pub length_tlv : (f : Field) → length (tlv_of f) ≡ 8 + filled (length f.bytes)
unfolding tlv_of
length_tlv f =
    let n = length f.bytes in
    let c = filled_covers n in
    rw (length-append, length-append, length-append, length-append, length_bytes_of 4 f.kind, length_bytes_of 2 (length_field own n), length_bytes_of 2 0, length-replicate)
    (omega arith)

-- a region is a whole number of eights, so that a nest has no fill
eights_tlv : (f : Field) → length (tlv_of f) ≡ 8 * (1 + (length f.bytes + 7) / 8)
unfolding filled
eights_tlv f = omega (arith, length_tlv f)

pub record Eights (n : ℕ) : Type 0 where
  pub count : ℕ
  pub are : n ≡ 8 * count

pub length_region_8 : (fs : List Field) → Eights (length (region_of fs))
unfolding region_of
length_region_8 [] = record { count = 0; are = omega arith }
length_region_8 (f ∷ fs) =
    let r = length_region_8 fs in
    let a = r.are in
    record {
      count = 1 + (length f.bytes + 7) / 8 + r.count;
      are = rw length-append (omega (arith, eights_tlv f, a));
    }

pub filled_region : (fs : List Field) → filled (length (region_of fs)) ≡ length (region_of fs)
unfolding filled
filled_region fs = let r = length_region_8 fs in let a = r.are in omega (arith, a)

-- ---- The walk

-- what is read at a field's place, and where its bytes stand
module _ (pre : List ℕ) (f : Field) (rest : List ℕ) where
  kind_there : f.kind < 2 ^ 32 → le_at 4 (pre ++ (tlv_of f ++ rest)) (length pre) ≡ f.kind
  unfolding le_at
  kind_there h = rw (drop-append_seam, tlv_parts, number_front 4 f.kind _ h)

  length_there : length_field own (length f.bytes) < 2 ^ 16
      → le_at 2 (pre ++ (tlv_of f ++ rest)) (length pre + 4) ≡ length_field own (length f.bytes)
  unfolding le_at
  length_there h =
      rw (drop-append-add, tlv_parts, drop_at (bytes_of 4 f.kind) _ 4 (length_bytes_of 4 f.kind), number_front 2 (length_field own (length f.bytes)) _ h)

  pub tlv_there : f.kind < 2 ^ 32 → length_field own (length f.bytes) < 2 ^ 16
      → tlv_at own (pre ++ (tlv_of f ++ rest)) (length pre) ≡ record { kind = f.kind; start = length pre + 8; size = length f.bytes }
  unfolding tlv_at
  tlv_there hk hl = rw (kind_there hk, length_there hl, (size_back own (length f.bytes)).0)

  -- a length that a TLV may have
  long_enough : length_field own (length f.bytes) < 2 ^ 16 → own ≤ le_at 2 (pre ++ (tlv_of f ++ rest)) (length pre + 4)
  long_enough h = rw (length_there h) (size_back own (length f.bytes)).1

  pub bytes_there : drop (length pre + 8) (pre ++ (tlv_of f ++ rest)) ≡ f.bytes ++ (fill f ++ rest)
  unfolding behind bytes_of
  bytes_there = rw (drop-append-add, tlv_parts)

-- the next field is met where this one ends
pub grown : (pre : List ℕ) (f : Field) → length (pre ++ tlv_of f) ≡ length pre + 8 + filled (length f.bytes)
grown pre f = omega (arith, length-append pre (tlv_of f), length_tlv f)

pub tlvs_encoded : (pre : List ℕ) (fs : List Field) → Encodable fs → tlvs own (pre ++ region_of fs) (length pre) ≡ placed (length pre) fs
unfolding region_of placed tlv_end
tlvs_encoded pre [] h = rw append-nil (tlvs_end own pre (length pre) (step_end own pre (length pre) refl))
tlvs_encoded pre (f ∷ fs) h =
    let s = pre ++ (tlv_of f ++ region_of fs) in
    let x : Tlv = record { kind = f.kind; start = length pre + 8; size = length f.bytes } in
    let e : tlv_at own s (length pre) ≡ x = tlv_there pre f (region_of fs) h.0 h.1 in
    let a : s ≡ pre ++ tlv_of f ++ region_of fs = sym (append_assoc pre (tlv_of f) (region_of fs)) in
    let l : tlv_end (tlv_at own s (length pre)) ≤ length s =
    rw e (omega (arith, ap length a, length-append (pre ++ tlv_of f) (region_of fs), grown pre f)) in
    let r : tlvs own s (length pre + 8 + filled (length f.bytes)) ≡ placed (length pre + 8 + filled (length f.bytes)) fs =
    rw (a, ← grown pre f) (tlvs_encoded (pre ++ tlv_of f) fs h.2) in
    tlvs_next own s (length pre) x (step_next own s (length pre) (is_tlv_lem own s (length pre) (long_enough pre f (region_of fs) h.1) l) ∙ ap Next e) ∙ ap (λ (xs : List Tlv). x ∷ xs) r

-- the whole of it
pub tlvs_region : (fs : List Field) → Encodable fs → tlvs own (region_of fs) 0 ≡ placed 0 fs
tlvs_region fs h = tlvs_encoded [] fs h

end_placed : (i : ℕ) (fs : List Field) → end_of i (placed i fs) ≡ i + length (region_of fs)
unfolding end_of placed region_of tlv_end
end_placed i [] = omega arith
end_placed i (f ∷ fs) =
    omega
    (arith, end_placed (i + 8 + filled (length f.bytes)) fs, length-append (tlv_of f) (region_of fs), length_tlv f)

pub encoded_whole : (fs : List Field) → Encodable fs → well_formed own (region_of fs) ≡ true
unfolding well_formed
encoded_whole fs h = let e : 0 + length (region_of fs) ≡ length (region_of fs) = omega arith in rw (tlvs_region fs h) (eq-eqb _ _ (end_placed 0 fs ∙ e))

-- ---- Look-up in fields of rising type

abbrev pub kind_of : Field → ℕ
kind_of f = f.kind

nothing_found : {G : Type 0} (f : Field) → some f ≡ none → G
nothing_found f e = not_both (ap (is_found kind_of) e)

module _ (k w : ℕ) where
  skips : (x : Tlv) (y : Found) (xs : List Tlv) → (x.kind ≡ k → ⊥) → scan k w y (x ∷ xs) ≡ scan k w y xs
  unfolding scan
  skips x y xs h = ap (λ (b : Bool). scan k w (choose b (meet w x y) y) xs) (ne_eqb x.kind k h)

  meets : (x : Tlv) (y : Found) (xs : List Tlv) → x.kind ≡ k → scan k w y (x ∷ xs) ≡ scan k w (meet w x y) xs
  unfolding scan
  meets x y xs h = ap (λ (b : Bool). scan k w (choose b (meet w x y) y) xs) (eq-eqb x.kind k h)

  -- types above k count for nothing
  scan_above : (i : ℕ) (x : Found) (fs : List Field) → Above kind_of k fs → scan k w x (placed i fs) ≡ x
  unfolding scan placed
  scan_above i x [] a = refl
  scan_above i x (f ∷ fs) a =
      skips _ x (placed (i + 8 + filled (length f.bytes)) fs) (λ e. absurd (omega (arith, e, a.0)))
      ∙ scan_above (i + 8 + filled (length f.bytes)) x fs a.1

  scan_none : (i : ℕ) (fs : List Field) → Rising kind_of fs → find kind_of k fs ≡ none → scan k w Absent (placed i fs) ≡ Absent
  unfolding scan placed find
  scan_none i [] u e = refl
  scan_none i (f ∷ fs) u e =
      by_order f.kind k
      (λ h p q. skips _ Absent (placed (i + 8 + filled (length f.bytes)) fs) (λ z. absurd (omega arith))
      ∙ scan_none (i + 8 + filled (length f.bytes)) fs u.1 (simp p at e))
      (λ h p q. nothing_found f (simp (p, q) at e))
      (λ h p q. scan_above i Absent (f ∷ fs) (h, above_less kind_of k f.kind fs (omega arith) u.0))

-- a field of type k stands in a region: what look-up finds, and the bytes there
pub record Stands (s : List ℕ) (k w : ℕ) (f : Field) : Type 0 where
  pub start : ℕ
  pub rest : List ℕ
  pub lookup_is : lookup own s k w ≡ At start (length f.bytes)
  pub bytes_are : drop start s ≡ f.bytes ++ rest

-- the same of what stands after other bytes
record StandsAt (pre : List ℕ) (fs : List Field) (k w : ℕ) (f : Field) : Type 0 where
  start : ℕ
  rest : List ℕ
  scan_is : scan k w Absent (placed (length pre) fs) ≡ At start (length f.bytes)
  bytes_are : drop start (pre ++ region_of fs) ≡ f.bytes ++ rest

abbrev found_or : Field → Option Field → Field
found_or g none = g
found_or g (some f) = f

module _ (k w : ℕ) where
  stands_first : (pre : List ℕ) (f : Field) (fs : List Field) → f.kind ≡ k → Above kind_of f.kind fs
      → fits_width w (length f.bytes) ≡ true → StandsAt pre (f ∷ fs) k w f
  unfolding placed region_of meet
  stands_first pre f fs e a fits =
      record {
        start = length pre + 8;
        rest = fill f ++ region_of fs;
        scan_is = meets k w _ Absent (placed (length pre + 8 + filled (length f.bytes)) fs) e ∙ rw fits (scan_above k w _ _ fs (rw (← e) a));
        bytes_are = bytes_there pre f (region_of fs);
      }

  stands_later : (pre : List ℕ) (g : Field) (gs : List Field) (f : Field) → (g.kind ≡ k → ⊥)
      → StandsAt (pre ++ tlv_of g) gs k w f → StandsAt pre (g ∷ gs) k w f
  unfolding placed region_of
  stands_later pre g gs f d r =
      record {
        start = r.start;
        rest = r.rest;
        scan_is = skips k w _ Absent (placed (length pre + 8 + filled (length g.bytes)) gs) d ∙ rw (← grown pre g) r.scan_is;
        bytes_are = rw (← append_assoc pre (tlv_of g) (region_of gs)) r.bytes_are;
      }

  stands_at : (f : Field) → fits_width w (length f.bytes) ≡ true → (pre : List ℕ) (fs : List Field) → Rising kind_of fs
      → find kind_of k fs ≡ some f → StandsAt pre fs k w f
  unfolding find
  stands_at f fits pre [] u e = nothing_found f (sym e)
  stands_at f fits pre (g ∷ gs) u e =
      by_order g.kind k
      (λ h p q. stands_later pre g gs f (λ z. absurd (omega arith)) (stands_at f fits (pre ++ tlv_of g) gs u.1 (simp p at e)))
      (λ h p q.
      let z : g ≡ f = ap (found_or f) (simp (p, q) at e) in
      rw (← z) (stands_first pre g gs h u.0 (rw z fits)))
      (λ h p q. nothing_found f (sym (simp (p, q) at e)))

-- THE LAW OF LOOK-UP
module _ (fs : List Field) (encodable : Encodable fs) (rising : Rising kind_of fs) (k w : ℕ) where
  pub find_none : find kind_of k fs ≡ none → lookup own (region_of fs) k w ≡ Absent
  unfolding lookup
  find_none e = rw (tlvs_region fs encodable) (scan_none k w 0 fs rising e)

  pub find_some : (f : Field) → fits_width w (length f.bytes) ≡ true → find kind_of k fs ≡ some f → Stands (region_of fs) k w f
  unfolding lookup
  find_some f fits e =
      let r = stands_at k w f fits [] fs rising e in
      record {
        start = r.start;
        rest = r.rest;
        lookup_is = rw (tlvs_region fs encodable) r.scan_is;
        bytes_are = r.bytes_are;
      }

-- a number is read from its own bytes, and as 0 where it has none
le_width : (n : ℕ) (s t : List ℕ) → fits_width n (length s) ≡ true → le n (s ++ t) ≡ le n s
unfolding le fits_width
le_width zero s t fits = refl
le_width (suc n) s t fits = le_front (suc n) s t (eqb-true (length s) (suc n) (simp (gt_eqb (suc n) 0 (omega arith)) at fits))

-- what is read of a field that stands there
module _ {s : List ℕ} {k w : ℕ} {f : Field} (x : Stands s k w f) where
  pub is_there : is_at (lookup own s k w) ≡ true
  unfolding is_at
  is_there = rw x.lookup_is

  pub right_there : (needed : Bool) → right needed (lookup own s k w) ≡ true
  unfolding right
  right_there needed = rw x.lookup_is

  pub number_there : (n : ℕ) → fits_width n (length f.bytes) ≡ true → number_in s n (lookup own s k w) ≡ le n f.bytes
  unfolding number_in le_at
  number_there n fits = rw (x.lookup_is, x.bytes_are) (le_width n f.bytes x.rest fits)

  pub nest_there : nest_in s (lookup own s k w) ≡ f.bytes
  unfolding nest_in part
  nest_there = rw (x.lookup_is, x.bytes_are) (take-append_seam f.bytes x.rest)

-- ---- The fields of one who uses them

-- a type is among them
unfoldable pub is_listed : ℕ → (ℕ → Bool) → ℕ → Bool
is_listed who has t = has_user (rule_of t).uses who && has t

or_true : (a b : Bool) → b ≡ false → a || b ≡ true → a ≡ true
or_true true b n e = refl
or_true false b n e = sym n ∙ e

every_map : (f g : ℕ → Bool) (n : ℕ) → ((k : ℕ) → k < n → f k ≡ true → g k ≡ true) → every_below n f ≡ true → every_below n g ≡ true
unfolding every_below
every_map f g zero each e = refl
every_map f g (suc n) each e =
    rw (each n (omega arith) (and_left (f n) (every_below n f) e))
    (every_map f g n (λ k h. each k (omega arith)) (and_right (f n) (every_below n f) e))

module _ (who : ℕ) (has : ℕ → Bool) (bytes : ℕ → List ℕ) where
  above_from : (n t j : ℕ) → j < t → Above kind_of j (fields_from who has bytes n t)
  unfolding fields_from is_listed
  above_from zero t j h = tt
  above_from (suc n) t j h =
      let r = above_from n (suc t) j (omega arith) in
      by_test (is_listed who has t) (λ p. simp p (h, r)) (λ p. simp p r)

  rising_from : (n t : ℕ) → Rising kind_of (fields_from who has bytes n t)
  unfolding fields_from is_listed
  rising_from zero t = tt
  rising_from (suc n) t =
      by_test (is_listed who has t) (λ p. simp p (above_from n (suc t) t (omega arith), rising_from n (suc t))) (λ p. simp p (rising_from n (suc t)))

  pub fields_rise : Rising kind_of (fields_of who has bytes)
  unfolding fields_of
  fields_rise = rising_from field_types 0

  encodable_from : ((t : ℕ) → length (bytes t) ≤ max_payload) → (n t : ℕ) → t + n < 2 ^ 32 → Encodable (fields_from who has bytes n t)
  unfolding fields_from is_listed
  encodable_from short zero t h = tt
  encodable_from short (suc n) t h =
      let r = encodable_from short n (suc t) (omega arith) in
      by_test (is_listed who has t) (λ p. simp p (omega arith, length_fits (length (bytes t)) (short t), r)) (λ p. simp p r)

  pub fields_encodable : ((t : ℕ) → length (bytes t) ≤ max_payload) → Encodable (fields_of who has bytes)
  unfolding fields_of
  fields_encodable short = encodable_from short field_types 0 (omega arith)

  find_first : (n t : ℕ) → find kind_of t (fields_from who has bytes (suc n) t) ≡ choose (is_listed who has t) (some (field_of t (bytes t))) none
  unfolding fields_from is_listed find
  find_first n t =
      by_test (is_listed who has t)
      (λ p. simp (p, le-ltb t t (omega arith), eq-eqb t t refl))
      (λ p. simp p (find_below kind_of t t (fields_from who has bytes n (suc t)) (omega arith) (above_from n (suc t) t (omega arith))))

  find_from : (n t k : ℕ) → t ≤ k → k < t + n
      → find kind_of k (fields_from who has bytes n t) ≡ choose (is_listed who has k) (some (field_of k (bytes k))) none
  unfolding fields_from is_listed find
  find_from zero t k lo hi = absurd (omega arith)
  find_from (suc n) t k lo hi =
      by_eq t k
      (λ e q. rw (← e) (find_first n t))
      (λ d q.
      let r = find_from n (suc t) k (omega arith) (omega arith) in
      by_test (is_listed who has t) (λ p. simp (p, lt-ltb t k (omega arith)) r) (λ p. simp p r))

  find_past : (n t k : ℕ) → t + n ≤ k → find kind_of k (fields_from who has bytes n t) ≡ none
  unfolding fields_from is_listed find
  find_past zero t k h = refl
  find_past (suc n) t k h =
      let r = find_past n (suc t) k (omega arith) in
      by_test (is_listed who has t) (λ p. simp (p, lt-ltb t k (omega arith)) r) (λ p. simp p r)

  pub find_field : (k : ℕ) → k < field_types
      → find kind_of k (fields_of who has bytes) ≡ choose (is_listed who has k) (some (field_of k (bytes k))) none
  unfolding fields_of
  find_field k h = find_from field_types 0 k (omega arith) (omega arith)

  pub find_beyond : (k : ℕ) → field_types ≤ k → find kind_of k (fields_of who has bytes) ≡ none
  unfolding fields_of
  find_beyond k h = find_past field_types 0 k (omega arith)

  -- bytes of the widths of the table; a nest is short enough for its length field
  module _ (short : (t : ℕ) → length (bytes t) ≤ max_payload) (wide : (t : ℕ) → fits_width (rule_of t).width (length (bytes t)) ≡ true) where
    pub field_stands : (k : ℕ) → k < field_types → is_listed who has k ≡ true
        → Stands (region_of (fields_of who has bytes)) k (rule_of k).width (field_of k (bytes k))
    field_stands k h p =
        find_some (fields_of who has bytes) (fields_encodable short) fields_rise k (rule_of k).width (field_of k (bytes k)) (wide k)
        (find_field k h ∙ rw p)

    pub field_absent : (k : ℕ) → k < field_types → is_listed who has k ≡ false → field own (region_of (fields_of who has bytes)) k ≡ Absent
    unfolding field
    field_absent k h p =
        find_none (fields_of who has bytes) (fields_encodable short) fields_rise k (rule_of k).width (find_field k h ∙ rw p)

    pub given_field : (k : ℕ) → k < field_types → given own (region_of (fields_of who has bytes)) k ≡ is_listed who has k
    unfolding given field is_at
    given_field k h =
        by_test (is_listed who has k)
        (λ p. rw p (is_there (field_stands k h p)))
        (λ p. rw (p, field_absent k h p))

    pub value_field : (k : ℕ) → k < field_types
        → value own (region_of (fields_of who has bytes)) k ≡ choose (is_listed who has k) (le (rule_of k).width (bytes k)) 0
    unfolding value field number_in
    value_field k h =
        by_test (is_listed who has k)
        (λ p. rw p (number_there (field_stands k h p) (rule_of k).width (wide k)))
        (λ p. rw (p, field_absent k h p))

    pub nest_field : (k : ℕ) → k < field_types
        → nest_in (region_of (fields_of who has bytes)) (field own (region_of (fields_of who has bytes)) k) ≡ choose (is_listed who has k) (bytes k) []
    unfolding field nest_in
    nest_field k h =
        by_test (is_listed who has k)
        (λ p. rw p (nest_there (field_stands k h p)))
        (λ p. rw (p, field_absent k h p))

    right_field : (k : ℕ) → k < field_types → not (has_user (rule_of k).needs who) || has k ≡ true
        → field_right own (region_of (fields_of who has bytes)) who k ≡ true
    unfolding field_right is_listed field right
    right_field k h e =
        by_test (has_user (rule_of k).uses who)
        (λ u. rw u (by_test (has k)
        (λ p. right_there (field_stands k h (rw (u, p))) (has_user (rule_of k).needs who))
        (λ p. rw (field_absent k h (rw (u, p))) (or_true (not (has_user (rule_of k).needs who)) (has k) p e))))
        (λ u. rw u)

    -- who has every field that it needs finds all right
    pub fields_right_lem : every_below field_types (λ t. not (has_user (rule_of t).needs who) || has t) ≡ true
        → fields_right own (region_of (fields_of who has bytes)) who ≡ true
    unfolding fields_right
    fields_right_lem e = every_map _ _ field_types right_field e

-- how long the region of some types is at most, by how long the TLV of each is
unfoldable pub sum_from : (ℕ → ℕ) → ℕ → ℕ → ℕ
sum_from bound zero t = 0
sum_from bound (suc n) t = bound t + sum_from bound n (suc t)

module _ (who : ℕ) (has : ℕ → Bool) (bytes : ℕ → List ℕ) (bound : ℕ → ℕ) (each : (t : ℕ) → 8 + filled (length (bytes t)) ≤ bound t) where
  length_from : (n t : ℕ) → length (region_of (fields_from who has bytes n t)) ≤ sum_from bound n t
  unfolding fields_from is_listed region_of sum_from
  length_from zero t = omega arith
  length_from (suc n) t =
      let r = length_from n (suc t) in
      by_test (is_listed who has t)
      (λ p.
      simp p
      (omega
      (arith, length-append (tlv_of (field_of t (bytes t))) (region_of (fields_from who has bytes n (suc t))), length_tlv (field_of t (bytes t)), each t)))
      (λ p. simp p (omega arith))

  pub length_fields : length (region_of (fields_of who has bytes)) ≤ sum_from bound field_types 0
  unfolding fields_of
  length_fields = length_from field_types 0

-- ---- The top region

pub length_payload : (command : ℕ) (fields : List Field) → length (payload_of command fields) ≡ 24 + length (region_of fields)
unfolding payload_of region_of
length_payload command fields =
    let a = field_of 1 (bytes_of 2 command) in
    let b = field_of 2 (region_of fields) in
    let f : filled (length (bytes_of 2 command)) ≡ 8 = unfold filled bytes_of in refl in
    omega
    (arith, length-append (tlv_of a) (tlv_of b ++ []), length-append (tlv_of b) [], length_tlv a, length_tlv b, f, filled_region fields)

module _ (command : ℕ) (fields : List Field) (fits : command < 2 ^ 16) (short : length (region_of fields) ≤ max_payload) where
  top : List Field
  top = field_of 1 (bytes_of 2 command) ∷ field_of 2 (region_of fields) ∷ []

  top_encodable : Encodable top
  unfolding top bytes_of
  top_encodable = (omega arith, length_fits 2 (omega arith), (omega arith, length_fits (length (region_of fields)) short, tt))

  top_rises : Rising kind_of top
  unfolding top
  top_rises = ((omega arith, tt), (tt, tt))

  pub type_stands : Stands (payload_of command fields) 1 2 (field_of 1 (bytes_of 2 command))
  unfolding top bytes_of find payload_of fits_width
  type_stands = find_some top top_encodable top_rises 1 2 (field_of 1 (bytes_of 2 command)) refl refl

  pub info_stands : Stands (payload_of command fields) 2 0 (field_of 2 (region_of fields))
  unfolding top find payload_of fits_width
  info_stands = find_some top top_encodable top_rises 2 0 (field_of 2 (region_of fields)) refl refl

  -- A PAYLOAD'S COMMAND IS DECODED FROM ITS FIELDS, by a device
  pub decode_payload : (ports : ℕ) → is_command command ≡ true → Encodable fields
      → decode (current_terms ports) (payload_of command fields) ≡ command_in (current_terms ports) command (region_of fields)
  unfolding decode need command_type command_info
  decode_payload ports known encodable =
      let whole : well_formed own (payload_of command fields) ≡ true = unfold payload_of top in encoded_whole top top_encodable in
      let number : number_in (payload_of command fields) 2 (lookup own (payload_of command fields) 1 2) ≡ command =
      number_there type_stands 2 (unfold fits_width bytes_of in refl) ∙ (le_bytes_of 2 command ∙ mod-eq_of_lt fits) in
      let nest : nest_in (payload_of command fields) (lookup own (payload_of command fields) 2 0) ≡ region_of fields = nest_there info_stands in
      rw (whole, is_there type_stands, is_there info_stands, number, known, nest, encoded_whole fields encodable)
