-- A region read one TLV at a time: what is left after a whole TLV, at the region's end, and at a fault.
-- Assumes nothing.
use Prim.Native.Nat.{ℕ, ◌+◌, ◌-◌, ◌<◌, ◌≤◌}
use mathlib.Core.Path.{◌≡◌, sym, subst, ◌∙◌}
use mathlib.Core.Bool.{false}
use mathlib.Core.List.{List, [], ◌∷◌}
use native.Mathlib.Omega.{arith}
use lib.ListN.{length}
use borrow.Author.Tests.{eq-eqb, ne_eqb}
use Rattle.std.proofs.Common.{Option, Some, None, Ok, Err, Result}
use Rattle.std.specs.Option.{SomeIff, ok_or}
use Rattle.std.specs.Iterator.{MakesProgress, item_count}
use Rattle.rules.specs.Bytes.{le_at}
use Rattle.rules.specs.Region.{value_size, filled, tlv_at, tlv_end, is_tlv, step_at, end_of}
use Rattle.rules.specs.declared.Tlv.{Tlv}
use Rattle.rules.specs.declared.Step.TheVariants.{Next}
use Rattle.rules.proofs.Region.{is_tlv_lem, under, too_long, step_next, step_end, step_fault, tlvs_next, tlvs_end, tlvs_fault}
use Rattle.rules.proofs.Cases.{by_lt}
use Rattle.tlv.specs.declared.reader.Malformed.{Malformed}
use Rattle.tlv.specs.Reading.{Read, fault, front, left}

clash : {G : Type 0} → ◌≡◌ {A = ℕ} 0 1 → G
clash e = absurd (omega arith)

module _ (h : ℕ) (s : List ℕ) (at : ℕ) where
  -- what stands at a position, by the rule: a TLV, or none
  abbrev Told : Read → Type 0
  Told r = (x : Tlv) → Ok x ≡ r → step_at h s at ≡ Next x

  abbrev Untold : Read → Type 0
  Untold r = (m : Malformed) → Err m ≡ r → is_tlv h s at ≡ false

  told : (Told (front h s at)) × (Untold (front h s at))
  unfolding value_size tlv_at tlv_end filled
  told =
      by_lt (length s) 8
      (λ a p. rw p (λ x e. clash cc, λ m e. too_long h s at (omega arith)))
      (λ a p. rw p (by_lt (length s - 8) at
      (λ b q. rw q (λ x e. clash cc, λ m e. too_long h s at (omega arith)))
      (λ b q. rw q (by_lt (le_at 2 s (at + 4)) h
      (λ c r. rw r (λ x e. clash cc, λ m e. under h s at c))
      (λ c r. rw r (by_lt (length s - 8 - at) (filled (le_at 2 s (at + 4) - h))
      (λ d t. rw t (λ x e. clash cc, λ m e. too_long h s at (omega arith)))
      (λ d t. rw t (λ x e. (let w = step_next h s at (is_tlv_lem h s at c (omega arith)) in cc), λ m e. clash cc))))))))

  pub front_is : (x : Tlv) → Ok x ≡ front h s at → step_at h s at ≡ Next x
  front_is = told.0

  pub front_not : (m : Malformed) → Err m ≡ front h s at → is_tlv h s at ≡ false
  front_not = told.1

module _ (h : ℕ) (s : List ℕ) (at : ℕ) where
  pub left_next : (x : Tlv) → step_at h s at ≡ Next x → left h s at ≡ Ok x ∷ left h s (tlv_end x)
  unfolding left end_of
  left_next x e = rw (tlvs_next h s at x e)

  pub left_end : at ≡ length s → left h s at ≡ []
  unfolding left end_of
  left_end e = rw (tlvs_end h s at (step_end h s at e), eq-eqb at (length s) e)

  pub left_fault : is_tlv h s at ≡ false → (at ≡ length s → ⊥) → left h s at ≡ fault ∷ []
  unfolding left end_of
  left_fault f d = rw (tlvs_fault h s at (step_fault h s at f d), ne_eqb at (length s) d)

-- a call of `next` that gave the first item left
pub goes_first : {A : Type 0} {x : Read} {y : A} {s t : List Read} → s ≡ x ∷ t → MakesProgress (λ _. Unit {0}) (item_count (λ rest. rest)) s (Some y) t
goes_first {t = t} e = record {
  on = λ _. (tt, tt, subst (λ l. length t < length l) (sym e) (omega arith));
  keeps = tt;
  rests = λ _. tt;
}

-- what a subtraction that is checked leaves is no more than it was taken from
pub left_over : (o : Option ℕ) (r : Result ℕ Malformed) (a b n : ℕ) (m : Malformed) → SomeIff o (b ≤ a) (a - b) → r ≡ ok_or o m → r ≡ Ok n → n ≤ a
left_over (Some k) r a b n m i e f = let q : ◌≡◌ {A = Result ℕ Malformed} (Ok k) (Ok n) = sym e ∙ f in let p : k ≡ n = cc in omega (arith, i.1)
left_over None r a b n m i e f = let q : ◌≡◌ {A = Result ℕ Malformed} (Err m) (Ok n) = sym e ∙ f in clash cc
