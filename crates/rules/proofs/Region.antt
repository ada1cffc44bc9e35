-- The walk over a region, a TLV at a time, and folds over it: once for every number h of header bytes that a length counts.
-- Assumes nothing.
use Prim.Native.Nat.{ℕ, zero, suc, ◌+◌, ◌-◌, ◌≤◌, ◌<◌}
use mathlib.Core.Path.{◌≡◌, refl, sym, ap, ◌∙◌}
use mathlib.Core.Bool.{Bool, true, false}
use mathlib.Core.List.{List, [], ◌∷◌}
use native.Mathlib.Omega.{arith}
use lib.ListN.{length}
use lib.Dec.{leb}
use borrow.Author.Tests.{lt-leb, le-leb, leb-true, eq-eqb, ne_eqb}
use Rattle.rules.specs.Choose.{choose}
use Rattle.rules.specs.Bytes.{le_at}
use Rattle.rules.specs.Region.{value_size, length_field, filled, tlv_at, tlv_end, is_tlv, step_at, after, onward, walk, tlvs, end_of, well_formed, meet, scan}
use Rattle.rules.specs.declared.Tlv.{Tlv}
use Rattle.rules.specs.declared.Found.{Found}
use Rattle.rules.specs.declared.Step.TheVariants.{Next, End, Fault}
use Rattle.rules.proofs.Cases.{by_test, by_eq, and_right}

-- a value's fill: a multiple of 8, no shorter than the value and less than 8 longer
pub filled_covers : (n : ℕ) → (n ≤ filled n) × (filled n < n + 8)
unfolding filled
filled_covers n = (omega arith, omega arith)

-- what is written as a value's length is read as it, and is a length that a TLV may have
pub size_back : (h n : ℕ) → (value_size h (length_field h n) ≡ n) × (h ≤ length_field h n)
unfolding value_size length_field
size_back h n = (omega arith, omega arith)

module _ (h : ℕ) where
  -- a TLV has 8 bytes or more, and its value lies inside it
  pub value_inside : (s : List ℕ) (i : ℕ) → (i + 8 ≤ tlv_end (tlv_at h s i)) × ((tlv_at h s i).start + (tlv_at h s i).size ≤ tlv_end (tlv_at h s i))
  unfolding tlv_at tlv_end filled
  value_inside s i = (omega arith, omega arith)

  -- a TLV is there, where its length is enough and the region has all of it; and then both hold
  pub is_tlv_lem : (s : List ℕ) (i : ℕ) → h ≤ le_at 2 s (i + 4) → tlv_end (tlv_at h s i) ≤ length s → is_tlv h s i ≡ true
  unfolding is_tlv
  is_tlv_lem s i a b = simp (le-leb _ _ a, le-leb _ _ b)

  tlv_fits : (s : List ℕ) (i : ℕ) → is_tlv h s i ≡ true → tlv_end (tlv_at h s i) ≤ length s
  unfolding is_tlv
  tlv_fits s i e = leb-true _ _ (and_right (leb h (le_at 2 s (i + 4))) _ e)

  -- there is none where the length is under h, nor where the region ends too early
  pub under : (s : List ℕ) (i : ℕ) → le_at 2 s (i + 4) < h → is_tlv h s i ≡ false
  unfolding is_tlv
  under s i a = simp (lt-leb _ _ a)

  pub too_long : (s : List ℕ) (i : ℕ) → length s < tlv_end (tlv_at h s i) → is_tlv h s i ≡ false
  too_long s i a = by_test (is_tlv h s i) (λ e. let b = tlv_fits s i e in absurd (omega arith)) (λ e. e)

  -- a step gives the TLV there; or the region ends there; or there is a fault
  pub step_next : (s : List ℕ) (i : ℕ) → is_tlv h s i ≡ true → step_at h s i ≡ Next (tlv_at h s i)
  unfolding step_at
  step_next s i e = rw e

  pub step_end : (s : List ℕ) (i : ℕ) → i ≡ length s → step_at h s i ≡ End
  unfolding step_at
  step_end s i e = let v = value_inside s i in rw (too_long s i (omega arith), eq-eqb i (length s) e)

  pub step_fault : (s : List ℕ) (i : ℕ) → is_tlv h s i ≡ false → (i ≡ length s → ⊥) → step_at h s i ≡ Fault
  unfolding step_at
  step_fault s i e d = rw (e, ne_eqb i (length s) d)

  -- the three, as cases
  by_step : {G : Type 0} (s : List ℕ) (i : ℕ)
      → (tlv_end (tlv_at h s i) ≤ length s → step_at h s i ≡ Next (tlv_at h s i) → G)
      → (i ≡ length s → step_at h s i ≡ End → G)
      → ((i ≡ length s → ⊥) → step_at h s i ≡ Fault → G) → G
  by_step s i next end fault =
      by_test (is_tlv h s i)
      (λ e. next (tlv_fits s i e) (step_next s i e))
      (λ e. by_eq i (length s) (λ q w. end q (step_end s i q)) (λ d w. fault d (step_fault s i e d)))

  -- any number of steps that is enough gives the same walk
  enough : (f g : ℕ) (s : List ℕ) (i : ℕ) → length s - i ≤ f → length s - i ≤ g → walk h f s i ≡ walk h g s i
  unfolding walk
  enough zero zero s i hf hg = refl
  enough zero (suc g) s i hf hg = let v = value_inside s i in by_step s i (λ b e. absurd (omega arith)) (λ b e. simp e) (λ d e. simp e)
  enough (suc f) zero s i hf hg = let v = value_inside s i in by_step s i (λ b e. absurd (omega arith)) (λ b e. simp e) (λ d e. simp e)
  enough (suc f) (suc g) s i hf hg =
      let v = value_inside s i in
      by_step s i
      (λ b e. simp e (ap (λ (l : List Tlv). tlv_at h s i ∷ l) (enough f g s (tlv_end (tlv_at h s i)) (omega arith) (omega arith))))
      (λ b e. simp e)
      (λ d e. simp e)

  unfold_at : (n : ℕ) (s : List ℕ) (i : ℕ) → length s ≡ n → walk h n s i ≡ onward (walk h n s) (step_at h s i)
  unfolding walk
  unfold_at zero s i l = let v = value_inside s i in by_step s i (λ b e. absurd (omega arith)) (λ b e. simp e) (λ d e. simp e)
  unfold_at (suc m) s i l =
      let v = value_inside s i in
      by_step s i
      (λ b e. simp e (ap (λ (l : List Tlv). tlv_at h s i ∷ l) (enough m (suc m) s (tlv_end (tlv_at h s i)) (omega arith) (omega arith))))
      (λ b e. simp e)
      (λ d e. simp e)

  -- THE LAW OF THE WALK: the TLV at a position, and then those from its end on
  pub tlvs_unfold : (s : List ℕ) (i : ℕ) → tlvs h s i ≡ onward (tlvs h s) (step_at h s i)
  unfolding tlvs
  tlvs_unfold s i = unfold_at (length s) s i refl

  -- so it goes at a whole TLV, at the end, and at a fault
  pub tlvs_next : (s : List ℕ) (i : ℕ) (x : Tlv) → step_at h s i ≡ Next x → tlvs h s i ≡ x ∷ tlvs h s (tlv_end x)
  tlvs_next s i x e = tlvs_unfold s i ∙ ap (onward (tlvs h s)) e

  pub tlvs_end : (s : List ℕ) (i : ℕ) → step_at h s i ≡ End → tlvs h s i ≡ []
  tlvs_end s i e = tlvs_unfold s i ∙ ap (onward (tlvs h s)) e

  pub tlvs_fault : (s : List ℕ) (i : ℕ) → step_at h s i ≡ Fault → tlvs h s i ≡ []
  tlvs_fault s i e = tlvs_unfold s i ∙ ap (onward (tlvs h s)) e

-- a step that gives a TLV goes on, and the TLV lies inside the region with its value
pub record Inside (s : List ℕ) (i : ℕ) (x : Tlv) : Type 0 where
  pub onwards : i + 8 ≤ tlv_end x
  pub fits : tlv_end x ≤ length s
  pub starts : x.start ≡ i + 8
  pub value_fits : x.start + x.size ≤ tlv_end x

clash : {G : Type 0} → ◌≡◌ {A = ℕ} 0 1 → G
clash e = absurd (omega arith)

-- The walk from the start comes by a position: the rest of the region decides where the last TLV ends
abbrev pub Reached : ℕ → List ℕ → ℕ → Type 0
Reached h s i = end_of 0 (tlvs h s 0) ≡ end_of i (tlvs h s i)

module _ (h : ℕ) where
  pub step_inside : (s : List ℕ) (i : ℕ) (x : Tlv) → step_at h s i ≡ Next x → Inside s i x
  unfolding tlv_at
  step_inside s i x e =
      let v = value_inside h s i in
      by_step h s i
      (λ b w. let q : tlv_at h s i ≡ x = cc in rw (← q) (record { onwards = v.0; fits = b; starts = refl; value_fits = v.1 }))
      (λ b w. clash cc)
      (λ d w. clash cc)

  -- the next step is made where the TLV ends, and less of the region is left for it
  pub after_next : (s : List ℕ) (i : ℕ) (x : Tlv) → step_at h s i ≡ Next x → after i (step_at h s i) ≡ tlv_end x
  unfolding after
  after_next s i x e = rw e

  pub after_less : (s : List ℕ) (i : ℕ) (x : Tlv) → step_at h s i ≡ Next x → length s - after i (step_at h s i) < length s - i
  after_less s i x e = let v = step_inside s i x e in omega (arith, after_next s i x e)

  -- any step goes on inside the region, or stays
  pub after_fits : (m : ℕ) (s : List ℕ) (i : ℕ) → i < m → length s < m → after i (step_at h s i) < m
  unfolding after
  after_fits m s i hi hs = by_step h s i (λ b e. rw e (omega arith)) (λ b e. rw e hi) (λ d e. rw e hi)

  pub reached_next : (s : List ℕ) (i : ℕ) (x : Tlv) → step_at h s i ≡ Next x → Reached h s i → Reached h s (tlv_end x)
  unfolding end_of
  reached_next s i x e r = r ∙ rw (tlvs_next h s i x e)

  -- so a region is well formed exactly if the walk over it stops at its end and not at a fault
  pub reached_end : (s : List ℕ) (i : ℕ) → step_at h s i ≡ End → Reached h s i → well_formed h s ≡ true
  unfolding well_formed end_of
  reached_end s i e r = eq-eqb _ _ (r ∙ rw (tlvs_end h s i e) (by_step h s i (λ b w. clash cc) (λ b w. b) (λ d w. clash cc)))

  pub reached_fault : (s : List ℕ) (i : ℕ) → step_at h s i ≡ Fault → Reached h s i → well_formed h s ≡ false
  unfolding well_formed end_of
  reached_fault s i e r =
      ne_eqb _ _ (λ q. by_step h s i (λ b w. clash cc) (λ b w. clash cc) (λ d w. d (sym (r ∙ rw (tlvs_fault h s i e)) ∙ q)))

-- what is found of a type, a step at a time
module _ (h k w : ℕ) (f : Found) (s : List ℕ) (i : ℕ) where
  pub scan_same : (x : Tlv) → step_at h s i ≡ Next x → x.kind ≡ k → scan k w f (tlvs h s i) ≡ scan k w (meet w x f) (tlvs h s (tlv_end x))
  unfolding scan
  scan_same x e q =
      rw (tlvs_next h s i x e) (ap (λ (b : Bool). scan k w (choose b (meet w x f) f) (tlvs h s (tlv_end x))) (eq-eqb x.kind k q))

  pub scan_other : (x : Tlv) → step_at h s i ≡ Next x → (x.kind ≡ k → ⊥) → scan k w f (tlvs h s i) ≡ scan k w f (tlvs h s (tlv_end x))
  unfolding scan
  scan_other x e q =
      rw (tlvs_next h s i x e) (ap (λ (b : Bool). scan k w (choose b (meet w x f) f) (tlvs h s (tlv_end x))) (ne_eqb x.kind k q))

  pub scan_stops : tlvs h s i ≡ [] → scan k w f (tlvs h s i) ≡ f
  unfolding scan
  scan_stops e = rw e
