-- A pass over a region, a TLV at a time, and the index that it makes.
-- Assumes nothing.
use Prim.Native.Nat.{ℕ, zero, suc, ◌+◌, ◌-◌, ◌≤◌, ◌<◌}
use mathlib.Core.Path.{◌≡◌, refl, sym, ap, ◌∙◌}
use mathlib.Core.Bool.{Bool, true, false}
use mathlib.Core.List.{List, [], ◌∷◌}
use native.Mathlib.Omega.{arith}
use lib.ListN.{length, length-set, get_or, replicate, get_or-replicate}
use lib.Seq.{get_or-set_same, get_or-set_other}
use lib.Dec.{leb}
use borrow.Author.Tests.{le-ltb, lt-ltb, leb-true}
use Rattle.std.proofs.Common.{Ok, Err}
use Rattle.rules.specs.Choose.{choose}
use Rattle.rules.specs.Bytes.{le_at}
use Rattle.rules.specs.Region.{tlv_at, tlv_end, is_tlv, walk, tlvs, well_formed, fits_width, meet, scan, lookup}
use Rattle.rules.specs.declared.Tlv.{Tlv}
use Rattle.rules.proofs.Region.{step_next, step_end, step_fault}
use Rattle.rules.proofs.Cases.{by_test, by_lt, by_eq, and_left}
use Rattle.tlv.specs.declared.reader.Malformed.{Malformed}
use Rattle.tlv.specs.Index.{size_at, found_at, marked, noted, Indexed}
use Rattle.tlv.specs.Reading.{Read, reads, left}

-- the TLVs in front of a fault, or all where there is none, and whether there is none
abbrev pub good : List Read → List Tlv
good [] = []
good (Ok x ∷ rest) = x ∷ good rest
good (Err m ∷ rest) = []

abbrev pub faultless : List Read → Bool
faultless [] = true
faultless (Ok x ∷ rest) = faultless rest
faultless (Err m ∷ rest) = false

good_reads : (b : Bool) (xs : List Tlv) → good (reads b xs) ≡ xs
good_reads true [] = refl
good_reads false [] = refl
good_reads b (x ∷ xs) = ap (λ (l : List Tlv). x ∷ l) (good_reads b xs)

faultless_reads : (b : Bool) (xs : List Tlv) → faultless (reads b xs) ≡ b
faultless_reads true [] = refl
faultless_reads false [] = refl
faultless_reads b (x ∷ xs) = faultless_reads b xs

-- those of a whole region are its TLVs, and there is no fault exactly if it is well formed
pub good_left : (h : ℕ) (s : List ℕ) → good (left h s 0) ≡ tlvs h s 0
unfolding left
good_left h s = good_reads _ (tlvs h s 0)

pub faultless_left : (h : ℕ) (s : List ℕ) → faultless (left h s 0) ≡ well_formed h s
unfolding left well_formed
faultless_left h s = faultless_reads _ (tlvs h s 0)

-- a TLV that stands in a region: its value starts behind its header, and its size is what the length there says, which counts the header
pub record Stands (h : ℕ) (s : List ℕ) (x : Tlv) : Type 0 where
  pub starts : 8 ≤ x.start
  pub sized : size_at h s x.start ≡ x.size
  pub counted : h ≤ le_at 2 s (x.start - 4)

abbrev pub AllStand : ℕ → List ℕ → List Tlv → Type 0
AllStand h s [] = Unit {0}
AllStand h s (x ∷ xs) = (Stands h s x) × (AllStand h s xs)

stands : (h : ℕ) (s : List ℕ) (i : ℕ) → is_tlv h s i ≡ true → Stands h s (tlv_at h s i)
unfolding is_tlv size_at tlv_at
stands h s i p =
    let b : i + 8 - 4 ≡ i + 4 = omega arith in
    record {
      starts = omega arith;
      sized = rw b;
      counted = rw b (leb-true _ _ (and_left (leb h (le_at 2 s (i + 4))) _ p));
    }

walk_stands : (n h : ℕ) (s : List ℕ) (i : ℕ) → AllStand h s (walk h n s i)
unfolding walk
walk_stands zero h s i = tt
walk_stands (suc n) h s i =
    by_test (is_tlv h s i)
    (λ p. rw (step_next h s i p) (stands h s i p, walk_stands n h s (tlv_end (tlv_at h s i))))
    (λ p. by_eq i (length s) (λ e q. rw (step_end h s i e) tt) (λ d q. rw (step_fault h s i p d) tt))

-- the length in front of each value that is noted counts the header
abbrev Counts : ℕ → List ℕ → List ℕ → Type 0
Counts h s places = (t : ℕ) → t < 44 → 8 ≤ get_or places t 0 → h ≤ le_at 2 s (get_or places t 0 - 4)

-- Where a pass stands: what is still to be read decides what is found of a type, and whether the region is well formed
pub record Indexing (h : ℕ) (s : List ℕ) (rest : List Read) (places : List ℕ) : Type 0 where
  pub whole : faultless rest ≡ well_formed h s
  pub stand : AllStand h s (good rest)
  pub long : length places ≡ 44
  pub finds : (t w : ℕ) → t < 44 → lookup h s t w ≡ scan t w (found_at h s w (get_or places t 0)) (good rest)
  pub counts : Counts h s places

pub indexing_starts : (h : ℕ) (s : List ℕ) → Indexing h s (left h s 0) (replicate 44 0)
unfolding lookup found_at tlvs
indexing_starts h s = record {
  whole = faultless_left h s;
  stand = rw (good_left h s) (walk_stands (length s) h s 0);
  long = refl;
  finds = λ t w b. rw (get_or-replicate {A = ℕ} 44 t 0 0 b, good_left h s);
  counts = λ t b e. absurd (omega (arith, get_or-replicate {A = ℕ} 44 t 0 0 b));
}

-- a number that one more value of its type marks says what that value makes of what was found
marks : (h : ℕ) (s : List ℕ) (w place : ℕ) (x : Tlv) → Stands h s x → found_at h s w (marked place x.start) ≡ meet w x (found_at h s w place)
unfolding found_at marked meet
marks h s w place x v =
    by_eq place 0
    (λ z p. simp (z, le-ltb _ _ v.starts, v.sized))
    (λ z p. by_lt place 8
    (λ l q. simp (p, q))
    (λ l q. by_test (fits_width w (size_at h s place)) (λ f. simp (p, q, f)) (λ f. simp (p, q, f))))

-- a value that is marked keeps what is known of the length in front of it
marked_counts : (h : ℕ) (s : List ℕ) (place start : ℕ) → h ≤ le_at 2 s (start - 4) → 8 ≤ marked place start → h ≤ le_at 2 s (marked place start - 4)
unfolding marked
marked_counts h s place start c = by_eq place 0 (λ z p. simp p (λ l. c)) (λ z p. simp p (λ l. absurd (omega arith)))

module _ {h : ℕ} {s : List ℕ} {x : Tlv} {rest : List Read} {places : List ℕ} (i : Indexing h s (Ok x ∷ rest) places) where
  noted_long : length (noted places x) ≡ 44
  unfolding noted
  noted_long = by_lt x.kind 44 (λ b p. simp p (rw length-set i.long)) (λ b p. simp p i.long)

  noted_at : (t : ℕ) → t < 44 → x.kind ≡ t → get_or (noted places x) t 0 ≡ marked (get_or places t 0) x.start
  unfolding noted
  noted_at t b z =
      rw (← z, lt-ltb x.kind 44 (omega arith))
      (get_or-set_same {A = ℕ} places x.kind (marked (get_or places x.kind 0) x.start) 0 (omega (arith, i.long)))

  noted_other : (t : ℕ) → (x.kind ≡ t → ⊥) → get_or (noted places x) t 0 ≡ get_or places t 0
  unfolding noted
  noted_other t z =
      by_lt x.kind 44
      (λ b p. simp p (get_or-set_other {A = ℕ} places x.kind t (marked (get_or places x.kind 0) x.start) 0 (λ q. z (sym q))))
      (λ b p. simp p)

  noted_counts : Counts h s (noted places x)
  noted_counts t b l =
      by_eq x.kind t
      (λ z p. rw (noted_at t b z) (marked_counts h s (get_or places t 0) x.start i.stand.0.counted (rw (noted_at t b z) at l)))
      (λ z p. rw (noted_other t z) (i.counts t b (rw (noted_other t z) at l)))

  noted_finds : (t w : ℕ) → t < 44
      → scan t w (found_at h s w (get_or places t 0)) (x ∷ good rest) ≡ scan t w (found_at h s w (get_or (noted places x) t 0)) (good rest)
  unfolding scan
  noted_finds t w b =
      by_eq x.kind t
      (λ z p. rw (noted_at t b z, marks h s w (get_or places t 0) x i.stand.0) (ap (λ (c : Bool). scan t w (choose c (meet w x (found_at h s w (get_or places t 0))) (found_at h s w (get_or places t 0))) (good rest)) p))
      (λ z p. rw (noted_other t z) (ap (λ (c : Bool). scan t w (choose c (meet w x (found_at h s w (get_or places t 0))) (found_at h s w (get_or places t 0))) (good rest)) p))

  -- a TLV is read, and its place noted
  pub indexing_next : Indexing h s rest (noted places x)
  indexing_next = record {
    whole = i.whole;
    stand = i.stand.1;
    long = noted_long;
    finds = λ t w b. i.finds t w b ∙ noted_finds t w b;
    counts = noted_counts;
  }

-- nothing is left, or a fault and no TLV in front of it
pub indexing_ends : {h : ℕ} {s places : List ℕ} → Indexing h s [] places → (Indexed h s places) × (true ≡ well_formed h s)
unfolding scan
indexing_ends i = (record { tells = λ t w b. sym (i.finds t w b); counts = i.counts }, i.whole)

pub indexing_fails : {h : ℕ} {s : List ℕ} {m : Malformed} {rest : List Read} {places : List ℕ} → Indexing h s (Err m ∷ rest) places
    → (Indexed h s places) × (false ≡ well_formed h s)
unfolding scan
indexing_fails i = (record { tells = λ t w b. sym (i.finds t w b); counts = i.counts }, i.whole)
